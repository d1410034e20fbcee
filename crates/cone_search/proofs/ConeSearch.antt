-- The search from the roots on: once each found row is visited, the marked rows are the cone of influence.
-- Assumes nothing.
use Prim.Native.Nat.{ℕ, ◌+◌, ◌-◌, ◌*◌, ◌%◌, ◌^◌, ◌<◌, ◌≤◌}
use mathlib.Core.Path.{◌≡◌, refl, sym, ap, ◌∙◌, subst}
use mathlib.Core.Bool.{Bool, true, false, cond, false≢true}
use mathlib.Core.List.{List, [], ◌∷◌}
use native.Mathlib.Omega.{arith}
use lib.ListN.{length}
use lib.Seq.{ext_get_or, get_or-set_same, get_or-set_other}
use Rattle.memory.specs.Slots.{slot_at}
use Rattle.memory.proofs.TestLaws.{last_or, fails}
use Rattle.memory.proofs.ListLaws.{tabulate-length, tabulate-at}
use Rattle.netlist.specs.Rows.{Row, constant, row_at, fanin_nodes}
use Rattle.abstraction.specs.Compaction.{is_cone_root, is_marked, mark_all, cone_of_influence}
use Rattle.abstraction.proofs.CompactionLaws.{AllMarked, ClosedUnderFanin, marked-lt}
use Rattle.abstraction.proofs.ConeLaws.{MarksWithin, mark_all-keeps, mark_all-marks, all_keep, mark_all-within, cone-length, cone-closed, cone-root, cone-least}
use Rattle.netlist.specs.WellFormed.{EachBelow}
use Rattle.blockfile.specs.RowsStand.{held_row, held_rows}
use Rattle.cone_search.specs.FoundRows.{HeldInside, mark_at, marks_in, found_at, Found, Pushed, RootsMarked}
use Rattle.cone_search.proofs.MarkLaws.{mark-no, marked-in, found_none, found-le}

-- ---- the roots

-- The roots before i are found, and no others.
pub record Seeded (f w : List ℕ) (n i t : ℕ) : Type 0 where
  pub found : Found w n t
  pub before : (j : ℕ) → j < n → j < i → mark_at w j ≡ is_cone_root (held_row f j)
  pub after : (j : ℕ) → j < n → i ≤ j → mark_at w j ≡ false

pub seeded-none : (f w : List ℕ) (n : ℕ) → ((j : ℕ) → slot_at w j ≡ 0) → Seeded f w n 0 0
seeded-none f w n h = record { found = found_none w n h; before = λ j l b. absurd (omega arith); after = λ j l b. mark-no w j (omega (arith, h j)) }

pub seeded-more : (f w w' : List ℕ) (n i t t' : ℕ) → i < n → Seeded f w n i t → Pushed w n t (cond (is_cone_root (held_row f i)) (i ∷ []) []) w' t' → Seeded f w' n (i + 1) t'
seeded-more f w w' n i t t' h S P = record {
  found = P.found;
  before = λ j l b. last_or j i (omega arith) (λ q. other j l (λ z. omega arith) ∙ S.before j l q) (λ q. rw q here);
  after = λ j l b. other j l (λ z. omega arith) ∙ S.after j l (omega arith);
}
  where
    now : (j : ℕ) → j < n → mark_at w' j ≡ is_marked (mark_all (marks_in w n) (cond (is_cone_root (held_row f i)) (i ∷ []) [])) j
    now j l = sym (marked-in w' n j l) ∙ ap (λ m. is_marked m j) P.marks

    other : (j : ℕ) → j < n → (j ≡ i → ⊥) → mark_at w' j ≡ mark_at w j
    other j l d = now j l ∙ go (is_cone_root (held_row f i))
      where
        go : (t : Bool) → is_marked (mark_all (marks_in w n) (cond t (i ∷ []) [])) j ≡ mark_at w j
        go true = get_or-set_other (marks_in w n) i j true false d ∙ marked-in w n j l
        go false = marked-in w n j l

    here : mark_at w' i ≡ is_cone_root (held_row f i)
    here = now i h ∙ go (is_cone_root (held_row f i))
      where
        go : (t : Bool) → is_marked (mark_all (marks_in w n) (cond t (i ∷ []) [])) i ≡ t
        go true = get_or-set_same (marks_in w n) i true false (rw (tabulate-length n (mark_at w)) h)
        go false = marked-in w n i h ∙ S.after i h (omega arith)

-- ---- what they reach

module _ (f : List ℕ) (n : ℕ) where
  abbrev rows : List Row
  rows = held_rows f n

  rows-length : length rows ≡ n
  rows-length = tabulate-length n (held_row f)

  row-at : (j : ℕ) → j < n → row_at rows j ≡ held_row f j
  row-at j h = tabulate-at n (held_row f) j constant h

  inside-rows : HeldInside f n → (j : ℕ) → j < length rows → EachBelow (length rows) (fanin_nodes (row_at rows j))
  inside-rows h j l = let k : j < n = rw rows-length at l in rw (rows-length, row-at j k) (h j k)

  -- t rows are found and v of them visited: what these name is marked, and every marked row is in the cone.
  pub record Reaching (w : List ℕ) (v t : ℕ) : Type 0 where
    pub found : Found w n t
    pub visits : v ≤ t
    pub roots : (j : ℕ) → j < n → is_cone_root (held_row f j) ≡ true → mark_at w j ≡ true
    pub followed : HeldInside f n → (k : ℕ) → k < v → AllMarked (marks_in w n) (fanin_nodes (held_row f (found_at w k)))
    pub sound : HeldInside f n → MarksWithin (marks_in w n) (cone_of_influence rows)

  in-range : (w : List ℕ) (j : ℕ) → is_marked (marks_in w n) j ≡ true → j < n
  in-range w j e = rw (tabulate-length n (mark_at w)) at (marked-lt (marks_in w n) j e)

  pub reaching-start : (w : List ℕ) (t : ℕ) → Found w n t → RootsMarked f w n → Reaching w 0 t
  reaching-start w t F R = record {
    found = F;
    visits = omega arith;
    roots = λ j h e. R j h ∙ e;
    followed = λ _ k h. absurd (omega arith);
    sound = λ _ j e.
        let h = in-range w j e in
        cone-root rows j (rw rows-length h) (rw (row-at j h) (sym (R j h) ∙ sym (marked-in w n j h) ∙ e));
  }

  reaching-next : (w w' : List ℕ) (v t t' : ℕ) → v < t → Reaching w v t → Pushed w n t (fanin_nodes (held_row f (found_at w v))) w' t' → Reaching w' (v + 1) t'
  reaching-next w w' v t t' h R P = record {
    found = P.found;
    visits = omega (arith, P.more);
    roots = λ j l e. sym (marked-in w' n j l) ∙ keeps j (marked-in w n j l ∙ R.roots j l e);
    followed = λ q k l. last_or k v (omega arith)
        (λ b. rw (P.before k (omega arith)) (all_keep (marks_in w n) (marks_in w' n) keeps (fanin_nodes (held_row f (found_at w k))) (R.followed q k b)))
        (λ b. rw (b, P.before v h, P.marks) (mark_all-marks (marks_in w n) js (rw (tabulate-length n (mark_at w)) (q x here.0))));
    sound = λ q. rw P.marks (mark_all-within (marks_in w n) (cone_of_influence rows) js (R.sound q) (named q));
  }
    where
      x : ℕ
      x = found_at w v

      js : List ℕ
      js = fanin_nodes (held_row f x)

      here : (x < n) × (mark_at w x ≡ true)
      here = R.found.marked v h

      keeps : MarksWithin (marks_in w n) (marks_in w' n)
      keeps j e = rw P.marks (mark_all-keeps (marks_in w n) js j e)

      named : HeldInside f n → AllMarked (cone_of_influence rows) js
      named q =
          let c = cone-closed rows (inside-rows q) x (rw rows-length here.0) (R.sound q x (marked-in w n x here.0 ∙ here.1)) in
          rw (row-at x here.0) at c

  -- The row that is visited next, by its slot s.
  module _ (w : List ℕ) (v t : ℕ) (h : v < t) (R : Reaching w v t) where
    pub visit-room : (w₀ : List ℕ) → 2 * n ≤ length w₀ → length w ≡ length w₀ → 2 * v + 2 ≤ length w
    visit-room w₀ l e = omega (arith, found-le w n t R.found)

    pub visit-less : n - (v + 1) < n - v
    visit-less = omega (arith, found-le w n t R.found)

    pub visit-next : (w' : List ℕ) (t' s : ℕ) → s ≡ slot_at w v → Pushed w n t (fanin_nodes (held_row f (s % 2 ^ 15))) w' t' → Reaching w' (v + 1) t'
    visit-next w' t' s e P = reaching-next w w' v t t' h R (subst (λ (x : ℕ). Pushed w n t (fanin_nodes (held_row f (x % 2 ^ 15))) w' t') e P)

  closed : (w : List ℕ) (v t : ℕ) → t ≤ v → Reaching w v t → HeldInside f n → ClosedUnderFanin rows (marks_in w n)
  closed w v t h R q j l e =
      let k : j < n = rw rows-length at l in
      let p = R.found.listed j k (sym (marked-in w n j k) ∙ e) in
      rw (row-at j k) (rw p.2 at (R.followed q p.0 (omega (arith, p.1))))

  both : (a b : Bool) → (a ≡ true → b ≡ true) → (b ≡ true → a ≡ true) → a ≡ b
  both true b p q = sym (p refl)
  both false b p q = sym (fails b (λ e. absurd (false≢true (q e))))

  pub reaching-end : (w : List ℕ) (v t : ℕ) → t ≤ v → Reaching w v t → HeldInside f n → marks_in w n ≡ cone_of_influence rows
  reaching-end w v t h R q =
      let least = cone-least rows (marks_in w n) (closed w v t h R q) (λ j l e. let k : j < n = rw rows-length at l in marked-in w n j k ∙ R.roots j k (rw (row-at j k) at e)) in
      ext_get_or false (marks_in w n) (cone_of_influence rows) (tabulate-length n (mark_at w) ∙ sym (cone-length rows ∙ rows-length)) (λ j l.
      both (is_marked (marks_in w n) j) (is_marked (cone_of_influence rows) j) (R.sound q j) (least j))
