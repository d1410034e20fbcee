-- Trees of entries: what stays of them, the way to a number, and one entry more.
-- Assumes nothing.
use Prim.Native.Nat.{ℕ, ◌+◌, ◌-◌, ◌*◌, ◌<◌, ◌≤◌, ◌/◌, ◌%◌, ◌^◌}
use mathlib.Core.Path.{◌≡◌, refl, sym, ap, ◌∙◌}
use mathlib.Core.Logic.{◌⊎◌, inl, inr, ⊎_elim}
use mathlib.Core.List.{List}
use native.Mathlib.Omega.{arith}
use native.Mathlib.Decide.{ℕ_discrete}
use native.Mathlib.Nat.{zero-add}
use lib.ListN.{length}
use lib.Seq.{sets}
use lib.Dec.{eqb}
use borrow.Author.Tests.{eq-eqb, ne_eqb}
use Rattle.std.specs.Prelude.{Result, Ok, Err}
use Rattle.std.specs.Result.{result_unwrap_or}
use Rattle.memory.specs.Fields.{byte_at, u32_at, u16_bytes, u32_bytes}
use Rattle.memory.specs.Frames.{KeptOutside}
use Rattle.memory.proofs.TestLaws.{last_or}
use Rattle.memory.proofs.ListLaws.{first_found, first-none}
use Rattle.memory.proofs.FieldLaws.{zeros-at, u32-read}
use Rattle.memory.proofs.FrameLaws.{u16-kept, kept-wider, kept-join, kept_sets, sets-at, u16-back}
use Rattle.name_tree.specs.Trees.{variable_at, child_at, entry_of, Way, here, down, Tree, Added, Written, Missed, Ended}
use Rattle.name_tree.specs.declared.Open.{Open}

-- ---- numbers that stay

-- The bytes of a number of 32 bits stay.
u32-kept : {lo hi : ℕ} {w w' : List ℕ} → KeptOutside lo hi w w' → (p : ℕ) → ((x : ℕ) → p ≤ x → x < p + 4 → lo ≤ x → x < hi → ⊥) → u32_at w' p ≡ u32_at w p
u32-kept K p n =
    let a = u16-kept K p (λ x h l. n x h (omega arith)) in
    let b = u16-kept K (p + 2) (λ x h l. n x (omega arith) (omega arith)) in
    omega (arith, a, b)

module _ {base : ℕ} {w w' : List ℕ} (K : KeptOutside 0 base w w') where
  pub variable-kept : (j : ℕ) → variable_at w' base j ≡ variable_at w base j
  variable-kept j = u32-kept K (base + 8 * j) (λ x a b c d. omega arith)

  pub child-kept : (j b : ℕ) → child_at w' base j b ≡ child_at w base j b
  child-kept j b = u16-kept K (base + 8 * j + 4 + 2 * b) (λ x a c d e. omega arith)

-- ---- ways

module _ {w : List ℕ} {base : ℕ} where
  -- A way to another entry begins with a step.
  way_on : {i x j y : ℕ} → Way w base i x j y → ¬ (i ≡ j) → (¬ (child_at w base i (x % 2) ≡ 0)) × Way w base (child_at w base i (x % 2)) (x / 2) j y
  way_on here n = absurd (n refl)
  way_on (down k W) n = (k, W)

  -- One step more.
  way-more : {i x j y : ℕ} → Way w base i x j y → ¬ (child_at w base j (y % 2) ≡ 0) → Way w base i x (child_at w base j (y % 2)) (y / 2)
  way-more here n = down n here
  way-more (down k W) n = down k (way-more W n)

  -- A way goes on where the children that are there stay.
  way-kept :
      {w' : List ℕ} {n i x j y : ℕ}
      → Tree w base n
      → ((k b : ℕ) → k < n → b < 2 → ¬ (child_at w base k b ≡ 0) → child_at w' base k b ≡ child_at w base k b)
      → i < n
      → Way w base i x j y
      → Way w' base i x j y
  way-kept T same l here = here
  way-kept {w'} {n} {i} {x} T same l (down k W) =
      let e = same i (x % 2) l (omega arith) k in
      let way = way-kept {w' = w'} T same (T.later i (x % 2) l (omega arith) k).1 W in
      down (λ q. k (sym e ∙ q)) (rw (← e) at way)

-- ---- the tree

module _ {w : List ℕ} {base : ℕ} where
  pub tree-empty : base ≤ length w → Tree w base 0
  tree-empty h = record {
    fits = omega arith;
    few = omega arith;
    later = λ j b l. absurd (omega arith);
    reached = λ j l. absurd (omega arith);
    distinct = λ i j a l. absurd (omega arith);
  }

  -- What stands from the tree on stays.
  pub tree-kept : {w' : List ℕ} {n : ℕ} → KeptOutside 0 base w w' → Tree w base n → Tree w' base n
  tree-kept {w'} {n} K T = record {
    fits = omega (arith, K.long, T.fits);
    few = T.few;
    later = λ j b l m. rw (child-kept K j b) (T.later j b l m);
    reached = λ j l.
        let r = T.reached j l in
        let way = way-kept {w' = w'} T (λ k b _ _ _. child-kept K k b) (omega arith) r.1 in
        (r.0, rw (variable-kept K j) way);
    distinct = λ i j a l. rw (variable-kept K i, variable-kept K j) (T.distinct i j a l);
  }

  -- An entry with the number is the one that is found.
  pub entry_first : {n j x : ℕ} → Tree w base n → j < n → variable_at w base j ≡ x → entry_of w base n x ≡ j
  entry_first {n} {j} {x} T l e =
      first_found 0 n (λ i. eqb (variable_at w base i) x) j (omega arith) (omega arith)
      (λ i _ a. ne_eqb (variable_at w base i) x (λ q. T.distinct i j a l (q ∙ sym e)))
      (eq-eqb (variable_at w base j) x e)

  -- Where the way to the number ends open, no entry is found.
  pub entry-missed : {n x i b : ℕ} → Missed w base n x i b → entry_of w base n x ≡ n
  entry-missed {n} {x} M =
      first-none 0 n (λ i. eqb (variable_at w base i) x) (λ j _ l. ne_eqb (variable_at w base j) x (M.absent j (omega arith))) ∙ zero-add n

-- ---- the way to a number

-- The way to x has come to entry i with the bits of y left, and goes on to each entry that has x.
pub record OnWay (w : List ℕ) (base n x i y : ℕ) : Type 0 where
  pub inside : i < n
  pub come : Way w base 0 x i y
  pub ahead : (j : ℕ) → j < n → variable_at w base j ≡ x → (z : ℕ) × Way w base i y j z

module _ (w : List ℕ) (base n x : ℕ) (T : Tree w base n) where
  pub way-start : 0 < n → OnWay w base n x 0 x
  way-start h = record { inside = h; come = here; ahead = λ j l e. rw e at (T.reached j l) }

  -- A child stands later.
  pub step-later : (i y b c : ℕ) → OnWay w base n x i y → b ≡ y % 2 → c ≡ child_at w base i b → (c ≡ 0 → ⊥) → n - c < n - i
  step-later i y b c O q r k =
      let l = T.later i b O.inside (omega arith) (λ z. k (r ∙ z)) in
      omega (arith, l.0, l.1)

  -- Entry i has another number.
  module _ (i y s b c : ℕ) (O : OnWay w base n x i y) (p : s ≡ variable_at w base i) (d : s ≡ x → ⊥) (q : b ≡ y % 2) (r : c ≡ child_at w base i b) where
    elsewhere : (j : ℕ) → variable_at w base j ≡ x → ¬ (i ≡ j)
    elsewhere j e m = d (p ∙ ap (variable_at w base) m ∙ e)

    pub way_step : (c ≡ 0 → ⊥) → OnWay w base n x c (y / 2)
    way_step k =
        let f : c ≡ child_at w base i (y % 2) = r ∙ ap (child_at w base i) q in
        let m : ¬ (child_at w base i (y % 2) ≡ 0) = λ z. k (f ∙ z) in
        rw f (record {
          inside = (T.later i (y % 2) O.inside (omega arith) m).1;
          come = way-more O.come m;
          ahead = λ j l e. let g = O.ahead j l e in (g.0, (way_on g.1 (elsewhere j e)).1);
        })

    pub way-missed : c ≡ 0 → Missed w base n x i b
    way-missed z = record {
      inside = O.inside;
      bit = omega arith;
      way = (y, (sym q, O.come));
      ends = sym r ∙ z;
      absent = λ j l e. (way_on (O.ahead j l e).1 (elsewhere j e)).0 (ap (child_at w base i) (sym q) ∙ sym r ∙ z);
    }

-- ---- where a way ends

module _ (w : List ℕ) (base n x : ℕ) (r : Result ℕ Open) (E : Ended w base n x r) where
  pub found_inside : (j : ℕ) → Tree w base n → r ≡ Ok j → entry_of w base n x < n
  found_inside j T e = let f : Ended w base n x (Ok j) = rw e at E in let g = entry_first T f.0 f.1 in omega (arith, f.0, g)

  pub open-missed : (o : Open) → r ≡ Err o → Missed w base n x o.entry o.bit
  open-missed o e = rw e at E

  pub open-room : (o : Open) → Tree w base n → r ≡ Err o → base + 8 * o.entry + 8 ≤ length w
  open-room o T e = omega (arith, T.fits, (open-missed o e).inside)

  pub open-bit : (o : Open) → r ≡ Err o → o.bit < 2
  open-bit o e = (open-missed o e).bit

-- The number's entry, or n where the way ends open.
pub entry_found : (w : List ℕ) (base n x : ℕ) (r : Result ℕ Open) → Ended w base n x r → Tree w base n → result_unwrap_or r n ≡ entry_of w base n x
entry_found w base n x (Ok j) f T = sym (entry_first T f.0 f.1)
entry_found w base n x (Err o) M T = sym (entry-missed M)

-- ---- one entry more

-- Entry n, with the number x, may have become a child; the other entries stay.
record Grown (w : List ℕ) (base n x : ℕ) (w' : List ℕ) : Type 0 where
  outside : KeptOutside base (base + 8 * (n + 1)) w w'
  numbers : (j : ℕ) → j < n → variable_at w' base j ≡ variable_at w base j
  children : (j b : ℕ) → j < n → b < 2 → (child_at w' base j b ≡ child_at w base j b) ⊎ ((child_at w base j b ≡ 0) × (child_at w' base j b ≡ n))
  new : variable_at w' base n ≡ x
  childless : (b : ℕ) → b < 2 → child_at w' base n b ≡ 0

module _ (w : List ℕ) (base n x : ℕ) (w' : List ℕ) (T : Tree w base n) (G : Grown w base n x w') where
  still : (k b : ℕ) → k < n → b < 2 → ¬ (child_at w base k b ≡ 0) → child_at w' base k b ≡ child_at w base k b
  still k b l m d = ⊎_elim (λ e. e) (λ e. absurd (d e.0)) (G.children k b l m)

  old-way : {z j y : ℕ} → 0 < n → Way w base 0 z j y → Way w' base 0 z j y
  old-way h W = way-kept T still h W

  grown :
      base + 8 * n + 8 ≤ length w
      → n + 1 < 2 ^ 16
      → ((j : ℕ) → j < n → ¬ (variable_at w base j ≡ x))
      → (y : ℕ) × Way w' base 0 x n y
      → Added w base n x w'
  grown room few absent W = record {
    tree = record {
      fits = omega (arith, G.outside.long);
      few = few;
      later = λ j b l m d.
          last_or j n (omega arith)
          (λ k.
          ⊎_elim
          (λ (e : child_at w' base j b ≡ child_at w base j b). (let p = T.later j b k m (λ z. d (e ∙ z)) in rw e (p.0, omega (arith, p.1))))
          (λ (e : (child_at w base j b ≡ 0) × (child_at w' base j b ≡ n)). rw e.1 (k, omega arith))
          (G.children j b k m))
          (λ e. absurd (d (rw e (G.childless b m))));
      reached = λ j l.
          last_or j n (omega arith)
          (λ k. let r = T.reached j k in (r.0, rw (G.numbers j k) (old-way (omega arith) r.1)))
          (λ e. rw (e, G.new) W);
      distinct = λ i j a l q.
          last_or j n (omega arith)
          (λ k. T.distinct i j a k (sym (G.numbers i (omega arith)) ∙ q ∙ G.numbers j k))
          (λ e. absent i (omega arith) (sym (G.numbers i (omega arith)) ∙ q ∙ ap (variable_at w' base) e ∙ G.new));
    };
    kept = G.numbers;
    new = G.new;
    outside = G.outside;
  }

-- The root.
pub added-root : (w : List ℕ) (base n x : ℕ) (w' : List ℕ) → Tree w base n → base + 8 * n + 8 ≤ length w → n ≡ 0 → Written w base n x w' → Added w base n x w'
added-root w base n x w' T room z W =
    grown w base n x w' T
    (record {
      outside = kept-wider base (base + 8 * (n + 1)) W.outside (omega arith) (omega arith);
      numbers = λ j l. absurd (omega arith);
      children = λ j b l. absurd (omega arith);
      new = W.new;
      childless = W.childless;
    })
    room
    (omega arith)
    (λ j l. absurd (omega arith))
    (x, rw z here)

-- A child of entry i, which had none for bit b.
module _ (w : List ℕ) (base n x i b : ℕ) (T : Tree w base n) (room : base + 8 * n + 8 ≤ length w) (few : n + 1 < 2 ^ 16) (M : Missed w base n x i b) where
  abbrev slot : ℕ
  slot = base + 8 * i + 4 + 2 * b

  abbrev linked : List ℕ
  linked = sets w slot (u16_bytes n)

  link-frame : KeptOutside slot (slot + 2) w linked
  link-frame = kept_sets slot (slot + 2) (u16_bytes n) w slot (omega arith) (omega arith)

  link_here : child_at linked base i b ≡ n
  link_here = u16-back w slot n (omega arith) (omega (arith, T.fits, M.inside, M.bit))

  link-other : (j c : ℕ) → c < 2 → (j ≡ i → c ≡ b → ⊥) → child_at linked base j c ≡ child_at w base j c
  link-other j c l d = u16-kept link-frame (base + 8 * j + 4 + 2 * c) (λ y h k u v. d (omega (arith, M.bit)) (omega (arith, M.bit)))

  module _ (w' : List ℕ) (W : Written linked base n x w') where
    child-after : (j c : ℕ) → j < n → c < 2 → child_at w' base j c ≡ child_at linked base j c
    child-after j c l k = u16-kept W.outside (base + 8 * j + 4 + 2 * c) (λ y u v h m. omega arith)

    child-grown : Grown w base n x w'
    child-grown = record {
      outside =
          kept-join base (base + 8 * (n + 1)) w linked w' link-frame W.outside
          (omega arith) (omega arith) (omega (arith, M.inside, M.bit)) (omega arith);
      numbers = λ j l.
          u32-kept W.outside (base + 8 * j) (λ y u v h m. omega arith)
          ∙ u32-kept link-frame (base + 8 * j) (λ y u v h m. omega arith);
      children = λ j c l k.
          elim (ℕ_discrete (2 * j + c) (2 * i + b)) [
            | yes e ↦ (
                let p : j ≡ i = omega (arith, M.bit) in
                let q : c ≡ b = omega arith in
                inr (rw (p, q) M.ends, child-after j c l k ∙ rw (p, q) link_here))
            | no d ↦ inl (child-after j c l k ∙ link-other j c k (λ (p : j ≡ i) (q : c ≡ b). d (omega arith)))
          ];
      new = W.new;
      childless = W.childless;
    }

    child-way : (y : ℕ) × Way w' base 0 x n y
    child-way =
        let y = M.way.0 in
        let e : child_at w' base i (y % 2) ≡ n = ap (child_at w' base i) M.way.1.0 ∙ child-after i b M.inside M.bit ∙ link_here in
        let come = old-way w base n x w' T child-grown (omega (arith, M.inside)) M.way.1.1 in
        (y / 2, rw e at (way-more come (λ z. omega (arith, e, M.inside))))

  pub added-child : (w₁ w' : List ℕ) → w₁ ≡ sets w (base + 8 * i + 4 + 2 * b) (u16_bytes n) → Written w₁ base n x w' → Added w base n x w'
  added-child w₁ w' e W =
      let W₁ : Written linked base n x w' = rw e at W in
      grown w base n x w' T (child-grown w' W₁) room few M.absent (child-way w' W₁)

-- ---- an entry is written

u32-back : (w : List ℕ) (p v : ℕ) → v < 2 ^ 32 → p + 4 ≤ length w → u32_at (sets w p (u32_bytes v)) p ≡ v
u32-back w p v h room = u32-read (sets w p (u32_bytes v)) p v h (λ d l. sets-at (u32_bytes v) w p d l room)

pub entry-written : (w : List ℕ) (base n x : ℕ) (w₁ w' : List ℕ) → base + 8 * n + 8 ≤ length w → x < 2 ^ 32 → w₁ ≡ sets w (base + 8 * n) (u32_bytes x) → w' ≡ sets w₁ (base + 8 * n + 4) (u32_bytes 0) → Written w base n x w'
entry-written w base n x w₁ w' room small e f =
    let p = base + 8 * n in
    let K : KeptOutside p (p + 4) w w₁ = rw e (kept_sets p (p + 4) (u32_bytes x) w p (omega arith) (omega arith)) in
    let L : KeptOutside (p + 4) (p + 8) w₁ w' = rw f (kept_sets (p + 4) (p + 8) (u32_bytes 0) w₁ (p + 4) (omega arith) (omega arith)) in
    let zeros : (d : ℕ) → d < 4 → byte_at w' (p + 4 + d) ≡ 0 = λ d l. rw f (sets-at (u32_bytes 0) w₁ (p + 4) d l (omega (arith, K.long)) ∙ zeros-at 4 d) in
    record {
      new = u32-kept L p (λ y u v h m. omega arith) ∙ rw e (u32-back w p x small (omega arith));
      childless = λ b l. omega (arith, zeros (2 * b) (omega arith), zeros (2 * b + 1) (omega arith), ap (byte_at w') (next-byte (p + 4) (2 * b)));
      outside = kept-join p (p + 8) w w₁ w' K L (omega arith) (omega arith) (omega arith) (omega arith);
    }
  where
    next-byte : (p d : ℕ) → p + d + 1 ≡ p + (d + 1)
    next-byte p d = omega arith
