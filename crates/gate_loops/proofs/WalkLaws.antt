-- The walk, step by step: it starts, opens a row, settles one, ends, or meets a loop; and the number that falls.
-- Assumes nothing.
use Prim.Native.Nat.{ℕ, zero, suc, ◌+◌, ◌*◌, ◌<◌, ◌≤◌, ◌^◌}
use mathlib.Core.Path.{◌≡◌, refl, sym, ap, ◌∙◌, subst}
use mathlib.Core.Logic.{◌↔◌, ◌≢◌}
use mathlib.Core.Bool.{true, cond, false≢true}
use mathlib.Core.List.{List, [], ◌∷◌}
use native.Mathlib.Omega.{arith}
use native.Mathlib.Decide.{ℕ_discrete}
use lib.ListN.{length}
use lib.Dec.{eqb, ltb}
use borrow.Author.Tests.{ne_eqb, ltb-true, lt-ltb}
use Rattle.memory.specs.Lists.{Among, here, there}
use Rattle.memory.specs.Slots.{slot_at, set_slot}
use Rattle.memory.proofs.TestLaws.{and-true, passes, last_or}
use Rattle.memory.proofs.SlotLaws.{slot_same, slot-other}
use Rattle.netlist.specs.Rows.{Row, row_at}
use Rattle.netlist.specs.WellFormed.{UnorderedRows}
use Rattle.ordering.specs.GateOrder.{is_gate, operands_of, Grounded, grounded}
use Rattle.gate_rows.proofs.RowLaws.{operand_below}
use Rattle.gate_loops.specs.Walk.{settled_slot, is_open, Settled, NoneOpen, Walked}
use Rattle.gate_loops.proofs.RowLaws.{operand-words, first-no-gate}

-- ---- the number that falls: 2 for a slot that is 0, 1 for an open one

abbrev weight : ℕ → ℕ
weight s = cond (eqb s 0) 2 (cond (eqb s settled_slot) 0 1)

unfoldable pub unsettled : List ℕ → ℕ → ℕ
unsettled w zero = zero
unsettled w (suc n) = unsettled w n + weight (slot_at w n)

module _ (w : List ℕ) (j v : ℕ) (room : 2 * j + 2 ≤ length w) (small : v < 2 ^ 16) where
  weights-before : (n : ℕ) → n ≤ j → unsettled (set_slot w j v) n ≡ unsettled w n
  unfolding unsettled
  weights-before zero h = refl
  weights-before (suc n) h = rw (weights-before n (omega arith), slot-other w j v n (λ e. omega arith))

  weights-set : (n : ℕ) → j < n → unsettled (set_slot w j v) n + weight (slot_at w j) ≡ unsettled w n + weight v
  unfolding unsettled
  weights-set zero h = absurd (omega arith)
  weights-set (suc n) h =
      last_or j n h
      (λ l. let e = ap weight (slot-other w j v n (λ q. omega arith)) in omega (arith, weights-set n l, e))
      (λ e. let b = weights-before n (omega (arith, e)) in let a : weight (slot_at (set_slot w j v) n) ≡ weight v = ap weight (ap (slot_at (set_slot w j v)) (sym e) ∙ slot_same w j v room small) in let c : weight (slot_at w n) ≡ weight (slot_at w j) = ap (λ (z : ℕ). weight (slot_at w z)) (sym e) in omega (arith, a, b, c))

  pub falls-opened : (n : ℕ) → j < n → slot_at w j ≡ 0 → 0 < v → v < settled_slot → unsettled (set_slot w j v) n < unsettled w n
  falls-opened n h e p q =
      let a : weight (slot_at w j) ≡ 2 = ap weight e in
      let b : weight v ≡ 1 = rw (ne_eqb v 0 (λ z. omega arith), ne_eqb v settled_slot (λ z. omega arith)) in
      omega (arith, weights-set n h, a, b)

  pub falls-settled : (n : ℕ) → j < n → 0 < slot_at w j → slot_at w j < settled_slot → v ≡ settled_slot → unsettled (set_slot w j v) n < unsettled w n
  falls-settled n h p q e =
      let a : weight (slot_at w j) ≡ 1 = rw (ne_eqb (slot_at w j) 0 (λ z. omega arith), ne_eqb (slot_at w j) settled_slot (λ z. omega arith)) in
      let b : weight v ≡ 0 = ap weight e in
      omega (arith, weights-set n h, a, b)

-- ---- lists of open rows

-- Row y names row x.
abbrev Names : List Row → ℕ → ℕ → Type 0
Names rows y x = Among x (operands_of (row_at rows y))

-- The open rows, the last one first: each is named by the one behind it, and its slot says so; the slot of the last is 1.
abbrev Linked : List Row → List ℕ → List ℕ → Type 0
Linked rows w [] = ⊥
Linked rows w (x ∷ []) = slot_at w x ≡ 1
Linked rows w (x ∷ y ∷ ys) = (slot_at w x ≡ suc y) × (Names rows y x × Linked rows w (y ∷ ys))

abbrev Distinct : List ℕ → Type 0
Distinct [] = Unit {0}
Distinct (x ∷ xs) = (¬ Among x xs) × Distinct xs

linked-kept : (rows : List Row) (w : List ℕ) (j v : ℕ) (c : List ℕ) → ¬ Among j c → Linked rows w c → Linked rows (set_slot w j v) c
linked-kept rows w j v [] n L = L
linked-kept rows w j v (x ∷ []) n L = slot-other w j v x (λ e. n (subst (λ (z : ℕ). Among z (x ∷ [])) e here)) ∙ L
linked-kept rows w j v (x ∷ y ∷ ys) n L = (
  slot-other w j v x (λ e. n (subst (λ (z : ℕ). Among z (x ∷ y ∷ ys)) e here)) ∙ L.0,
  (L.1.0, linked-kept rows w j v (y ∷ ys) (λ a. n (there a)) L.1.1),
)

rest_of : (y x : ℕ) (c : List ℕ) → y ≢ x → Among y (x ∷ c) → Among y c
rest_of y x c n here = absurd (n refl)
rest_of y x c n (there a) = a

only : (x y : ℕ) → Among x (y ∷ []) → x ≡ y
only x y here = refl
only x y (there a) = absurd (elim a [ ])

-- ---- open slots

pub open-words : (s : ℕ) → is_open s ≡ true → (0 < s) × (s < settled_slot)
open-words s h = let p = and-true (ltb 0 s) _ h in (ltb-true 0 s p.0, ltb-true s settled_slot p.1)

pub open_of : (s : ℕ) → 0 < s → s < settled_slot → is_open s ≡ true
open_of s a b = rw (lt-ltb 0 s a, lt-ltb s settled_slot b)

-- A row that is not settled is a gate.
pub unsettled-gate : (rows : List Row) (w : List ℕ) → Settled rows w → (x : ℕ) → x < length rows → slot_at w x ≢ settled_slot → is_gate (row_at rows x) ≡ true
unsettled-gate rows w S x h n = passes (is_gate (row_at rows x)) (λ e. n (S.sources x h (λ g. false≢true (sym e ∙ g))))

-- Row x is open.
abbrev IsOpen : List Row → List ℕ → ℕ → Type 0
IsOpen rows w x = (x < length rows) × (is_open (slot_at w x) ≡ true)

-- The walk from `root` stands at `row`; w₀ has the slots as they were when it started.
pub record Walking (rows : List Row) (w₀ w : List ℕ) (root row : ℕ) : Type 0 where
  pub settled : Settled rows w
  pub behind : List ℕ
  pub linked : Linked rows w (row ∷ behind)
  pub distinct : Distinct (row ∷ behind)
  pub open-rows : (x : ℕ) → IsOpen rows w x ↔ Among x (row ∷ behind)
  pub start : slot_at w root ≡ 1
  pub kept : (x : ℕ) → x < length rows → slot_at w₀ x ≡ settled_slot → slot_at w x ≡ settled_slot

-- w has a slot for each row, and so few that 1 + a row is never the settled one.
pub record HasSlots (rows : List Row) (w : List ℕ) : Type 0 where
  pub checked : UnorderedRows rows
  pub few : suc (length rows) < settled_slot
  pub room : 2 * length rows ≤ length w

module _ (rows : List Row) (w : List ℕ) (T : HasSlots rows w) where
  -- Slot j is set: the other rows are open as before.
  open_kept : (j v x : ℕ) → x ≢ j → IsOpen rows w x ↔ IsOpen rows (set_slot w j v) x
  open_kept j v x q = let e = ap is_open (slot-other w j v x q) in (λ o. (o.0, e ∙ o.1), λ o. (o.0, sym e ∙ o.1))

  open-set : (j v : ℕ) → j < length rows → 0 < v → v < settled_slot → IsOpen rows (set_slot w j v) j
  open-set j v l p q = (l, ap is_open (slot_same w j v (omega arith) (omega arith)) ∙ open_of v p q)

  -- A slot that becomes open settles nothing.
  settled-opened : (j v : ℕ) → j < length rows → is_gate (row_at rows j) ≡ true → v < settled_slot → Settled rows w → Settled rows (set_slot w j v)
  settled-opened j v l g k S = record {
    sound = λ x h gx e. elim (ℕ_discrete x j) [
      | yes q ↦ absurd (let z = slot_same w j v (omega arith) (omega arith) in let p : slot_at (set_slot w j v) x ≡ v = ap (slot_at (set_slot w j v)) q ∙ z in omega (arith, p, e))
      | no q ↦ S.sound x h gx (sym (slot-other w j v x q) ∙ e)
    ];
    sources = λ x h n. slot-other w j v x (λ q. n (subst (λ (z : ℕ). is_gate (row_at rows z) ≡ true) (sym q) g)) ∙ S.sources x h n;
  }

  -- ---- a walk starts

  pub walk_start : (root : ℕ) → root < length rows → Settled rows w → NoneOpen rows w → slot_at w root ≡ 0 → Walking rows (set_slot w root 1) (set_slot w root 1) root root
  walk_start root l S N z = record {
    settled = settled-opened root 1 l (unsettled-gate rows w S root l (λ e. omega arith)) (omega arith) S;
    behind = [];
    linked = slot_same w root 1 (omega arith) (omega arith);
    distinct = (λ a. elim a [ ], tt);
    open-rows = λ x. (
      λ o. elim (ℕ_discrete x root) [
        | yes q ↦ subst (λ (z : ℕ). Among x (z ∷ [])) q here
        | no q ↦ absurd (N x o.0 ((open_kept root 1 x q).1 o).1)
      ],
      λ a. subst (IsOpen rows (set_slot w root 1)) (sym (only x root a)) (open-set root 1 l (omega arith) (omega arith)),
    );
    start = slot_same w root 1 (omega arith) (omega arith);
    kept = λ x h e. e;
  }

  module _ (w₀ : List ℕ) (root row : ℕ) (W : Walking rows w₀ w root row) where
    abbrev chain : List ℕ
    chain = row ∷ W.behind

    inside : row < length rows
    inside = ((W.open-rows row).1 here).0

    pub row_open : (0 < slot_at w row) × (slot_at w row < settled_slot)
    row_open = open-words (slot_at w row) ((W.open-rows row).1 here).1

    -- ---- a row that is not seen is opened

    pub walk-push : (x : ℕ) → x < length rows → Names rows row x → slot_at w x ≡ 0 → Walking rows w₀ (set_slot w x (suc row)) root x
    walk-push x l N e = record {
      settled = settled-opened x (suc row) l (unsettled-gate rows w W.settled x l (λ q. omega arith)) (omega (arith, inside)) W.settled;
      behind = chain;
      linked = (slot_same w x (suc row) (omega arith) (omega (arith, inside)), (N, linked-kept rows w x (suc row) chain fresh W.linked));
      distinct = (fresh, W.distinct);
      open-rows = λ y. (
        λ o. elim (ℕ_discrete y x) [
          | yes q ↦ subst (λ (z : ℕ). Among y (z ∷ chain)) q here
          | no q ↦ there ((W.open-rows y).0 ((open_kept x (suc row) y q).1 o))
        ],
        λ a. elim (ℕ_discrete y x) [
          | yes q ↦ subst (IsOpen rows (set_slot w x (suc row))) (sym q) (open-set x (suc row) l (omega arith) (omega (arith, inside)))
          | no q ↦ (open_kept x (suc row) y q).0 ((W.open-rows y).1 (rest_of y x chain q a))
        ],
      );
      start = stays root W.start (omega arith);
      kept = λ y h k. stays y (W.kept y h k) (omega arith);
    }
      where
        fresh : ¬ Among x chain
        fresh a = let o = open-words (slot_at w x) ((W.open-rows x).1 a).1 in omega (arith, o.0, e)

        stays : (y : ℕ) {v : ℕ} → slot_at w y ≡ v → 0 < v → slot_at (set_slot w x (suc row)) y ≡ v
        stays y h p = slot-other w x (suc row) y (λ q. let z : slot_at w x ≡ _ = ap (slot_at w) (sym q) ∙ h in omega (arith, z, e)) ∙ h

    -- ---- a row is settled once all that it names is

    module _ (all : (j : ℕ) → Names rows row j → slot_at w j ≡ settled_slot) where
      abbrev w' : List ℕ
      w' = set_slot w row settled_slot

      now-settled : (x : ℕ) → x ≡ row → slot_at w' x ≡ settled_slot
      now-settled x q = ap (slot_at w') q ∙ slot_same w row settled_slot (omega (arith, inside)) (omega arith)

      row-grounded : Grounded rows row
      row-grounded = grounded row (λ j a g.
          let b : Names rows row j = rw (unsettled-gate rows w W.settled row inside (λ e. omega (arith, row_open.1))) a in
          W.settled.sound j (operand_below rows T.checked row inside j b) g (all j b))

      settled-more : Settled rows w'
      settled-more = record {
        sound = λ x h g e. elim (ℕ_discrete x row) [
          | yes q ↦ subst (Grounded rows) (sym q) row-grounded
          | no q ↦ W.settled.sound x h g (sym (slot-other w row settled_slot x q) ∙ e)
        ];
        sources = λ x h n. elim (ℕ_discrete x row) [ yes q ↦ now-settled x q | no q ↦ slot-other w row settled_slot x q ∙ W.settled.sources x h n ];
      }

      kept_more : (x : ℕ) → x < length rows → slot_at w₀ x ≡ settled_slot → slot_at w' x ≡ settled_slot
      kept_more x h e = elim (ℕ_discrete x row) [ yes q ↦ now-settled x q | no q ↦ slot-other w row settled_slot x q ∙ W.kept x h e ]

      -- The open rows are those behind it.
      left_open : (b : List ℕ) → ((x : ℕ) → IsOpen rows w x ↔ Among x (row ∷ b)) → (x : ℕ) → IsOpen rows w' x → Among x b
      left_open b o x k = elim (ℕ_discrete x row) [
        | yes q ↦ absurd (omega (arith, now-settled x q, open-words (slot_at w' x) k.1))
        | no q ↦ rest_of x row b q ((o x).0 ((open_kept row settled_slot x q).1 k))
      ]

      -- Its slot says which row led to it.
      pub walk-pop : (y : ℕ) → 0 < y → slot_at w row ≡ suc y → (y < length rows) × Walking rows w₀ w' root y
      walk-pop y p e = go W.behind W.linked W.distinct W.open-rows
        where
          go : (b : List ℕ) → Linked rows w (row ∷ b) → Distinct (row ∷ b) → ((x : ℕ) → IsOpen rows w x ↔ Among x (row ∷ b)) → (y < length rows) × Walking rows w₀ w' root y
          go [] L D o = absurd (omega (arith, L, e, p))
          go (z ∷ zs) L D o =
              let q : z ≡ y = omega (arith, L.0, e) in
              subst (λ (k : ℕ). (k < length rows) × Walking rows w₀ w' root k) q (
                ((o z).1 (there here)).0,
                record {
                  settled = settled-more;
                  behind = zs;
                  linked = linked-kept rows w row settled_slot (z ∷ zs) D.0 L.1.1;
                  distinct = D.1;
                  open-rows = λ x. (left_open (z ∷ zs) o x, λ a. (open_kept row settled_slot x (λ d. D.0 (subst (λ (k : ℕ). Among k (z ∷ zs)) d a))).0 ((o x).1 (there a)));
                  start = slot-other w row settled_slot root (λ d. let r : slot_at w row ≡ 1 = ap (slot_at w) (sym d) ∙ W.start in omega (arith, r, e, p)) ∙ W.start;
                  kept = kept_more;
                },
              )

      -- Where its slot is 1 it is the root, and no row is open any more.
      pub walk_end : root < length rows → slot_at w row ≡ 1 → Walked rows w₀ w' root
      walk_end l h = go W.behind W.linked W.open-rows
        where
          go : (b : List ℕ) → Linked rows w (row ∷ b) → ((x : ℕ) → IsOpen rows w x ↔ Among x (row ∷ b)) → Walked rows w₀ w' root
          go [] L o = record {
            settled = settled-more;
            closed = λ x k q. elim (left_open [] o x (k, q)) [ ];
            reached = now-settled root (only root row ((o root).0 (l, ap is_open W.start ∙ open_of 1 (omega arith) (omega arith))));
            kept = kept_more;
          }
          go (y ∷ ys) L o = absurd (first-no-gate rows T.checked (subst (λ (k : ℕ). is_gate (row_at rows k) ≡ true) (omega (arith, L.0, h)) (operand-words (row_at rows y) row L.1.0).0))

    -- ---- a walk that comes to an open row has met a loop: no open row is grounded

    module _ (x : ℕ) (N : Names rows row x) (A : Among x chain) where
      next-open : (y r : ℕ) (b : List ℕ) → Linked rows w (r ∷ b) → (z : ℕ) × (Names rows r z × Among z chain) → ((z : ℕ) → Among z b → Among z chain) → Among r chain → Among y (r ∷ b) → (z : ℕ) × (Names rows y z × Among z chain)
      next-open y r b L n s m here = n
      next-open y _ _ L n s m (there {j = j} {js = []} a) = elim a [ ]
      next-open y r (q ∷ b) L n s m (there a) = next-open y q b L.1.1 (r, (L.1.0, m)) (λ z k. s z (there k)) (s q here) a

      named-open : (y : ℕ) → Among y chain → (z : ℕ) × (Names rows y z × Among z chain)
      named-open y = next-open y row W.behind W.linked (x, (N, A)) (λ z. there) here

      pub ungrounded : (y : ℕ) → Grounded rows y → ¬ Among y chain
      ungrounded y (grounded y' f) a =
          let r = named-open y' a in
          let s = named-open r.0 r.1.1 in
          ungrounded r.0 (f r.0 (operand-words (row_at rows y') r.0 r.1.0).1 (operand-words (row_at rows r.0) s.0 s.1.0).0) r.1.1
