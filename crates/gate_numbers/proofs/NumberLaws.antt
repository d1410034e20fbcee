-- Numbers in an order, and rows numbered by kind.
-- Assumes nothing.
use Prim.Native.Nat.{ℕ, zero, suc, ◌+◌, ◌*◌, ◌<◌, ◌≤◌, ◌^◌}
use mathlib.Core.Path.{◌≡◌, refl, sym, ap, ◌∙◌}
use mathlib.Core.Bool.{Bool, true, false, cond, ◌&&◌, false≢true, true≢false}
use mathlib.Core.List.{List, [], ◌∷◌, ◌++◌}
use native.Mathlib.Omega.{arith}
use native.Mathlib.Numerals.{add-one}
use lib.ListN.{length, get_or, length-append}
use lib.Dec.{eqb, ltb, leb}
use lib.Seq.{length-sets}
use native.Mathlib.Decide.{ℕ_discrete}
use borrow.Author.Tests.{eqb-true, eqb-false, eq-eqb, ne_eqb, ltb-true, ltb-false, lt-ltb, le-ltb}
use Rattle.memory.specs.Lists.{first_from}
use Rattle.memory.specs.Fields.{u16_bytes}
use Rattle.memory.specs.Slots.{slot_at, set_slot}
use Rattle.memory.proofs.TestLaws.{fails, last_or}
use Rattle.memory.proofs.SlotLaws.{slot_same, slot-other}
use Rattle.netlist.specs.Rows.{Row, row_at, kind_of}
use Rattle.ordering.specs.GateOrder.{is_in, rows_that, new_number}
use Rattle.ordering.proofs.PlacingLaws.{in-of, in_is}
use Rattle.ordering.proofs.OrderLaws.{below, below-is, below_in}
use Rattle.gate_rows.specs.Sources.{source_rows, Source}
use Rattle.gate_rows.specs.declared.Layout.{Layout}
use Rattle.gate_numbers.specs.Numbers.{placed_slot, of_kinds, KindsFit}

-- ---- the number of a row in a longer order

first-shift : (i n : ℕ) (f : ℕ → Bool) → first_from (suc i) n f ≡ suc (first_from i n (λ j. f (suc j)))
first-shift i zero f = refl
first-shift i (suc n) f = go (f (suc i)) (first-shift (suc i) n f)
  where
    go : (t : Bool) → first_from (suc (suc i)) n f ≡ suc (first_from (suc i) n (λ j. f (suc j))) → elim t [ true ↦ suc i | false ↦ first_from (suc (suc i)) n f ] ≡ suc (elim t [ true ↦ i | false ↦ first_from (suc i) n (λ j. f (suc j)) ])
    go true ih = refl
    go false ih = ih

number-cons : (x : ℕ) (o : List ℕ) (i : ℕ) → new_number (x ∷ o) i ≡ cond (eqb x i) 0 (suc (new_number o i))
unfolding new_number
number-cons x o i = go (eqb x i)
  where
    go : (t : Bool) → elim t [ true ↦ 0 | false ↦ first_from 1 (length o) (λ y. eqb (get_or (x ∷ o) y 0) i) ] ≡ cond t 0 (suc (first_from 0 (length o) (λ y. eqb (get_or o y 0) i)))
    go true = refl
    go false = first-shift 0 (length o) (λ y. eqb (get_or (x ∷ o) y 0) i)

pub number-left : (o p : List ℕ) (i : ℕ) → is_in i o ≡ true → new_number (o ++ p) i ≡ new_number o i
number-left [] p i h = absurd (false≢true h)
number-left (x ∷ o) p i h = number-cons x (o ++ p) i ∙ go (eqb x i) refl (number-left o p i) ∙ sym (number-cons x o i)
  where
    go : (t : Bool) → eqb x i ≡ t → (is_in i o ≡ true → new_number (o ++ p) i ≡ new_number o i) → cond t 0 (suc (new_number (o ++ p) i)) ≡ cond t 0 (suc (new_number o i))
    go true e ih = refl
    go false e ih = ap suc (ih (rw (ne_eqb i x (λ q. eqb-false x i e (sym q))) at h))

pub number-right : (o p : List ℕ) (i : ℕ) → is_in i o ≡ false → new_number (o ++ p) i ≡ length o + new_number p i
number-right [] p i h = omega arith
number-right (x ∷ o) p i h = number-cons x (o ++ p) i ∙ go (eqb x i) refl (number-right o p i)
  where
    go : (t : Bool) → eqb x i ≡ t → (is_in i o ≡ false → new_number (o ++ p) i ≡ length o + new_number p i) → cond t 0 (suc (new_number (o ++ p) i)) ≡ length (x ∷ o) + new_number p i
    go true e ih = absurd (true≢false (rw (eq-eqb i x (sym (eqb-true x i e))) at h))
    go false e ih = omega (arith, ih (rw (ne_eqb i x (λ q. eqb-false x i e (sym q))) at h))

-- A row put at the end.
pub number-last : (o : List ℕ) (i : ℕ) → is_in i o ≡ false → new_number (o ++ (i ∷ [])) i ≡ length o
number-last o i h =
    let z : new_number (i ∷ []) i ≡ 0 = number-cons i [] i ∙ rw (eq-eqb i i refl) in
    omega (arith, number-right o (i ∷ []) i h, z)

-- ---- the rows of some kinds

module _ (rows : List Row) (f : Row → Bool) where
  abbrev one : Bool → ℕ
  one t = cond t 1 0

  below_suc : (m : ℕ) → length (below rows f (suc m)) ≡ length (below rows f m) + one (f (row_at rows m))
  below_suc m = length-append (below rows f m) _ ∙ ap (λ (x : ℕ). length (below rows f m) + x) (go (f (row_at rows m)))
    where
      go : (t : Bool) → length (cond t (m ∷ []) []) ≡ one t
      go true = refl
      go false = refl

  pub below-le : (m : ℕ) → length (below rows f m) ≤ m
  below-le zero = omega arith
  below-le (suc m) = go (f (row_at rows m)) (below_suc m) (below-le m)
    where
      go : (t : Bool) → length (below rows f (suc m)) ≡ length (below rows f m) + one t → length (below rows f m) ≤ m → length (below rows f (suc m)) ≤ suc m
      go true e h = omega arith
      go false e h = omega arith

  below-grows : (m k : ℕ) → m ≤ k → length (below rows f m) ≤ length (below rows f k)
  below-grows m zero h = let e : m ≡ 0 = omega arith in rw e (omega arith)
  below-grows m (suc k) h = elim (ℕ_discrete m (suc k)) [
    | yes e ↦ rw e (omega arith)
    | no d ↦ omega (arith, below-grows m k (omega (arith, d)), below_suc k)
  ]

  -- A row's number is how many of them are before it.
  below-number : (m i : ℕ) → i < m → f (row_at rows i) ≡ true → new_number (below rows f m) i ≡ length (below rows f i)
  below-number zero i h e = absurd (omega arith)
  below-number (suc m) i h e =
      last_or i m h
      (λ l. number-left (below rows f m) _ i (in-of i (below rows f m) (below_in rows f m i l e)) ∙ below-number m i l e)
      (λ q. rw q (ap (λ (t : Bool). new_number (below rows f m ++ cond t (m ∷ []) []) m) (rw q at e)
      ∙ number-last (below rows f m) m (fails (is_in m (below rows f m)) (λ a. let l = (below-is rows f m m (in_is m (below rows f m) a)).0 in omega (arith, l)))))

-- ---- one row numbered

-- The row's kind is k; t says whether it is one of these.
module _ (layout : Layout) (f : List ℕ) (row least most k : ℕ) (t : Bool) (e : k ≡ kind_of (row_at (source_rows layout f) row)) (q : t ≡ leb least k && leb k most) where
  abbrev chosen : Bool
  chosen = of_kinds least most (row_at (source_rows layout f) row)

  chosen_is : t ≡ chosen
  chosen_is = q ∙ ap (λ (x : ℕ). leb least x && leb x most) e

  pub number-yes : (number : ℕ) → t ≡ true → number + 1 ≡ number + cond chosen 1 0
  number-yes number y = rw (sym chosen_is ∙ y)

  pub number-no : (number : ℕ) → t ≡ false → number ≡ number + cond chosen 1 0
  number-no number y = rw (sym chosen_is ∙ y) (omega arith)

-- ---- rows numbered one after the other

pub ltb-more : (i row : ℕ) → (i ≡ row → ⊥) → ltb i (row + 1) ≡ ltb i row
ltb-more i row d = go (ltb i row) refl
  where
    go : (t : Bool) → ltb i row ≡ t → ltb i (row + 1) ≡ t
    go true e = lt-ltb i (row + 1) (let q = ltb-true i row e in omega arith)
    go false e = le-ltb i (row + 1) (let q = ltb-false i row e in omega (arith, d))

-- The rows below `row` are done: `next` is the next number.
pub record Numbering (rows : List Row) (least most number : ℕ) (w₀ w : List ℕ) (row next : ℕ) : Type 0 where
  pub long : length w ≡ length w₀
  pub count : next ≡ number + length (below rows (of_kinds least most) row)
  pub slots : (i : ℕ) → i < length rows
      → slot_at w i ≡ cond (ltb i row && of_kinds least most (row_at rows i)) (placed_slot + (number + new_number (rows_that rows (of_kinds least most)) i)) (slot_at w₀ i)

-- In a source of n rows.
module _ (layout : Layout) (f : List ℕ) (n : ℕ) (F : Source layout f n) (least most number : ℕ) where
  abbrev rows : List Row
  rows = source_rows layout f

  abbrev kinds : Row → Bool
  kinds = of_kinds least most

  abbrev number_of : ℕ → ℕ
  number_of i = placed_slot + (number + new_number (rows_that rows kinds) i)

  pub numbering-none : (w : List ℕ) → Numbering rows least most number w w 0 number
  numbering-none w = record { long = refl; count = omega arith; slots = λ i l. rw (le-ltb i 0 (omega arith)) }

  module _ (w₀ w : List ℕ) (row next : ℕ) (N : Numbering rows least most number w₀ w row next) where
    module _ (h : row < n) (fit : KindsFit rows least most number n) where
      pub numbering-fits : placed_slot + next < 2 ^ 16
      numbering-fits = omega (arith, F.few, N.count, below-grows rows kinds row (length rows) (omega (arith, F.count)), fit.upto)

      module _ (w' : List ℕ) (r : ℕ) (room : 2 * n ≤ length w₀) (er : r ≡ next + cond (kinds (row_at rows row)) 1 0) (ew : w' ≡ cond (kinds (row_at rows row)) (set_slot w row (placed_slot + next)) w) where
        long-next : (t : Bool) → length (cond t (set_slot w row (placed_slot + next)) w) ≡ length w₀
        long-next true = length-sets w (2 * row) (u16_bytes (placed_slot + next)) ∙ N.long
        long-next false = N.long

        slot-here : (t : Bool) → kinds (row_at rows row) ≡ t → slot_at (cond t (set_slot w row (placed_slot + next)) w) row ≡ cond (ltb row (row + 1) && kinds (row_at rows row)) (number_of row) (slot_at w₀ row)
        slot-here true e =
            let q = below-number rows kinds (length rows) row (omega (arith, F.count)) e in
            rw (lt-ltb row (row + 1) (omega arith), e) (slot_same w row (placed_slot + next) (omega (arith, N.long)) numbering-fits ∙ omega (arith, N.count, q))
        slot-here false e = rw (lt-ltb row (row + 1) (omega arith), e) (N.slots row (omega (arith, F.count)) ∙ rw (le-ltb row row (omega arith)))

        slot-there : (t : Bool) (i : ℕ) → i < length rows → (i ≡ row → ⊥) → slot_at (cond t (set_slot w row (placed_slot + next)) w) i ≡ cond (ltb i (row + 1) && kinds (row_at rows i)) (number_of i) (slot_at w₀ i)
        slot-there true i l d = slot-other w row (placed_slot + next) i d ∙ N.slots i l ∙ rw (ltb-more i row d)
        slot-there false i l d = N.slots i l ∙ rw (ltb-more i row d)

        pub numbering-more : Numbering rows least most number w₀ w' (row + 1) r
        numbering-more = record {
          long = ap length ew ∙ long-next (kinds (row_at rows row));
          count = rw (add-one row) (omega (arith, er, N.count, below_suc rows kinds row));
          slots = λ i l. ap (λ (x : List ℕ). slot_at x i) ew ∙ elim (ℕ_discrete i row) [
            | yes e ↦ rw e (slot-here (kinds (row_at rows row)) refl)
            | no d ↦ slot-there (kinds (row_at rows row)) i l d
          ];
        }
