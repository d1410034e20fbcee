-- Values by columns are those that the original is given.
-- Assumes nothing.
use Prim.Native.Nat.{ℕ, zero, suc, ◌+◌, ◌-◌, ◌*◌, ◌<◌, ◌≤◌, ◌/◌, ◌%◌}
use mathlib.Core.Path.{◌≡◌, refl, sym, ap, ap₂, ◌∙◌}
use mathlib.Core.Bool.{Bool, true, false, cond, not, ◌&&◌}
use mathlib.Core.List.{List, [], ◌∷◌, ◌++◌, append-nil}
use native.Mathlib.Omega.{arith}
use native.Mathlib.Decide.{dec_lt}
use native.Mathlib.Nat.{mod-lt, div-add-mod', mul-le-mul_right, mul-zero, suc-mul}
use native.Mathlib.Numerals.{add-one}
use lib.ListN.{length}
use lib.Seq.{take-length}
use lib.Dec.{eqb, ltb}
use borrow.Author.Tests.{ne_eqb, ltb-true}
use Rattle.memory.specs.Lists.{join_below, tabulate, first_from, count_if}
use Rattle.memory.specs.Fields.{byte_at}
use Rattle.memory.specs.Slots.{slot_at}
use Rattle.memory.proofs.TestLaws.{and-true}
use Rattle.memory.proofs.ListLaws.{join-cong, first-is, first_cong, count_next, count-place}
use Rattle.netlist.specs.Rows.{Row, constant, row_at, kind_of, label_of, phase_of, has_name, is_unknown_named, is_input, is_unknown, row_named, first_row}
use Rattle.netlist.specs.Simulation.{RunValues}
use Rattle.netlist.specs.RunLayout.{place_among, each_that, values_from_bytes, choice_bytes, input_bytes}
use Rattle.netlist.specs.WellFormed.{NamesUnique}
use Rattle.netlist.proofs.RowLaws.{unknown-is, named-place}
use Rattle.traces.specs.Trace.{trace_steps, traced_values}
use Rattle.trace_columns.specs.Columns.{LabelsListed, is_called, column_of, ColumnsOf}
use Rattle.trace_columns.specs.TraceValues.{value_in, values_in, step_in}

-- ---- x of each row that is counted, by its place

module _ (f : Row → Bool) (g : Row → ℕ) (h : ℕ → ℕ) (rows : List Row) (agree : (i : ℕ) → i < length rows → f (row_at rows i) ≡ true → h (place_among f rows i) ≡ g (row_at rows i)) where
  abbrev one : ℕ → List ℕ
  one i = cond (f (row_at rows i)) (g (row_at rows i) ∷ []) []

  each_next : (n : ℕ) → n < length rows → join_below n one ≡ tabulate (place_among f rows n) h → join_below (suc n) one ≡ tabulate (place_among f rows (suc n)) h
  each_next n l e = go (f (row_at rows n)) refl
    where
      go : (t : Bool) → f (row_at rows n) ≡ t → join_below (suc n) one ≡ tabulate (place_among f rows (suc n)) h
      go true w =
          let more : place_among f rows (suc n) ≡ suc (place_among f rows n) = ap (place_among f rows) (sym (add-one n)) ∙ count_next f constant rows n l ∙ ap (λ (t : Bool). place_among f rows n + cond t 1 0) w ∙ add-one (place_among f rows n) in
          let x : one n ≡ h (place_among f rows n) ∷ [] = ap (λ (t : Bool). cond t (g (row_at rows n) ∷ []) []) w ∙ ap (λ (k : ℕ). k ∷ []) (sym (agree n l w)) in
          ap₂ ◌++◌ e x ∙ ap (λ (k : ℕ). tabulate k h) (sym more)
      go false w =
          let more : place_among f rows (suc n) ≡ place_among f rows n + 0 = ap (place_among f rows) (sym (add-one n)) ∙ count_next f constant rows n l ∙ ap (λ (t : Bool). place_among f rows n + cond t 1 0) w in
          let same : place_among f rows (suc n) ≡ place_among f rows n = omega (arith, more) in
          let x : one n ≡ [] = ap (λ (t : Bool). cond t (g (row_at rows n) ∷ []) []) w in
          ap₂ ◌++◌ e x ∙ append-nil (tabulate (place_among f rows n) h) ∙ ap (λ (k : ℕ). tabulate k h) (sym same)

  each-upto : (n : ℕ) → n ≤ length rows → join_below n one ≡ tabulate (place_among f rows n) h
  each-upto zero l = refl
  each-upto (suc n) l = each_next n l (each-upto n (omega arith))

  pub each-by-place : each_that f g rows ≡ tabulate (count_if f rows) h
  each-by-place = each-upto (length rows) (omega arith) ∙ ap (λ (k : ℕ). tabulate k h) (ap (count_if f) (take-length rows))

-- ---- a column's value

-- A byte of 0 or 1, as a truth and back.
bit-back : (b : ℕ) → b ≤ 1 → b ≡ cond (not (eqb b 0)) 1 0
bit-back zero h = refl
bit-back (suc zero) h = refl
bit-back (suc (suc b)) h = absurd (omega arith)

abbrev pub Bits : List ℕ → Type 0
Bits vs = (d : ℕ) → byte_at vs d ≤ 1

-- Where row y of n is the one that is sought, if it is there.
value-by : (values : List ℕ) → Bits values → (base place : ℕ) (there : Bool) → value_in values base (cond there (place + 1) 0) ≡ cond (there && not (eqb (byte_at values (base + place)) 0)) 1 0
value-by values bits base place true =
    let e : base + (place + 1) - 1 ≡ base + place = omega arith in
    rw (ne_eqb (place + 1) 0 (λ q. omega arith), e) (bit-back (byte_at values (base + place)) (bits (base + place)))
value-by values bits base place false = refl

module _ (folded : List Row) (N : ℕ) (choices inputs : List ℕ) where
  abbrev run : RunValues
  run = traced_values N folded (values_from_bytes folded choices inputs)

  input-value : Bits inputs → (t l p : ℕ) → value_in inputs (t / N * count_if is_input folded) (column_of is_input folded (length folded) l (t % N)) ≡ cond (run.inputs t l p) 1 0
  unfolding traced_values values_from_bytes column_of
  input-value bits t l p = let y = row_named 1 l (t % N) folded in value-by inputs bits (t / N * count_if is_input folded) (place_among is_input folded y) (ltb y (length folded))

  -- An X register has phase 0, and is the register of its label.
  called-unknown : (l i : ℕ) → is_called is_unknown folded l 0 i ≡ is_unknown_named l (row_at folded i)
  called-unknown l i = go (is_unknown_named l (row_at folded i)) refl
    where
      go : (t : Bool) → is_unknown_named l (row_at folded i) ≡ t → is_unknown_named l (row_at folded i) && eqb (phase_of (row_at folded i)) 0 ≡ is_unknown_named l (row_at folded i)
      go true e = let u = unknown-is l (row_at folded i) e in rw (e, ap phase_of u.1) refl
      go false e = rw e refl

  choice-value : NamesUnique folded → Bits choices → (l : ℕ) → value_in choices 0 (column_of is_unknown folded (length folded) l 0) ≡ cond (run.choices l) 1 0
  unfolding traced_values values_from_bytes column_of
  choice-value unique bits l =
      let y = first_row (is_unknown_named l) folded in
      let e : first_from 0 (length folded) (is_called is_unknown folded l 0) ≡ y = first_cong 0 (length folded) (is_called is_unknown folded l 0) (λ i. is_unknown_named l (row_at folded i)) (λ j _. called-unknown l j) in
      ap (λ (z : ℕ). value_in choices 0 (cond (ltb z (length folded)) (place_among is_unknown folded z + 1) 0)) e
      ∙ value-by choices bits 0 (place_among is_unknown folded y) (ltb y (length folded))
      ∙ go (ltb y (length folded)) refl
    where
      x : ℕ
      x = row_named 2 l 0 folded

      go : (t : Bool) → ltb (first_row (is_unknown_named l) folded) (length folded) ≡ t
          → ◌≡◌ {A = ℕ} (cond (t && not (eqb (byte_at choices (0 + place_among is_unknown folded (first_row (is_unknown_named l) folded))) 0)) 1 0) (cond (t && not (eqb (byte_at choices (place_among is_unknown folded (row_named 2 l 0 folded))) 0)) 1 0)
      go true w =
          let y = first_row (is_unknown_named l) folded in
          let b = ltb-true y (length folded) w in
          let u = unknown-is l (row_at folded y) ((first-is 0 (length folded) (λ i. is_unknown_named l (row_at folded i))).holds (omega arith)) in
          let q : row_named 2 l 0 folded ≡ y = named-place folded unique y b 2 l 0 (ap has_name u.1) (ap kind_of u.1) (ap label_of u.1) (ap phase_of u.1) in
          let z : 0 + place_among is_unknown folded y ≡ place_among is_unknown folded (row_named 2 l 0 folded) = omega (arith, ap (place_among is_unknown folded) q) in
          ap (λ (k : ℕ). cond (not (eqb (byte_at choices k) 0)) 1 0) z
      go false w = refl

  -- ---- all rows of the original

  module _ (original : List Row) (labels columns : List ℕ) where
    pub choices-taken : NamesUnique folded → Bits choices → LabelsListed is_unknown original (length original) labels → ColumnsOf is_unknown folded (length folded) 1 labels (count_if is_unknown original) columns → choice_bytes original run ≡ values_in columns 0 (count_if is_unknown original) choices 0
    unfolding choice_bytes
    choices-taken unique bits L C =
        each-by-place is_unknown (λ r. cond (run.choices (label_of r)) 1 0) (λ x. value_in choices 0 (slot_at columns (0 + x))) original (λ i h w.
        let x = place_among is_unknown original i in
        let s : slot_at columns (0 + x) ≡ column_of is_unknown folded (length folded) (label_of (row_at original i)) 0 =
        (let e : 0 + x ≡ 0 * count_if is_unknown original + x = omega arith in
        ap (slot_at columns) e ∙ C 0 x (omega arith) (count-place is_unknown constant original i h w) ∙ ap (λ (l : ℕ). column_of is_unknown folded (length folded) l 0) (L i h w)) in
        ap (value_in choices 0) s ∙ choice-value unique bits (label_of (row_at original i)))

    pub inputs-taken : Bits inputs → (1 ≤ N) → LabelsListed is_input original (length original) labels → ColumnsOf is_input folded (length folded) N labels (count_if is_input original) columns → (T : ℕ) → input_bytes original run T ≡ join_below T (step_in columns (count_if is_input original) N (count_if is_input folded) inputs)
    unfolding input_bytes
    inputs-taken bits some L C T =
        join-cong T _ _ (λ t _.
        each-by-place is_input (λ r. cond (run.inputs t (label_of r) (phase_of r)) 1 0) (λ x. value_in inputs (t / N * count_if is_input folded) (slot_at columns (t % N * count_if is_input original + x))) original (λ i h w.
        let x = place_among is_input original i in
        let s = C (t % N) x (mod-lt t some) (count-place is_input constant original i h w) ∙ ap (λ (l : ℕ). column_of is_input folded (length folded) l (t % N)) (L i h w) in
        ap (value_in inputs (t / N * count_if is_input folded)) s ∙ input-value bits t (label_of (row_at original i)) (phase_of (row_at original i))))

-- ---- what the writing asks

-- A column is at most the number of rows that are counted.
pub column-le : (f : Row → Bool) (rows : List Row) (l p : ℕ) → column_of f rows (length rows) l p ≤ count_if f rows
unfolding column_of
column-le f rows l p = go (ltb y (length rows)) refl
  where
    y : ℕ
    y = first_from 0 (length rows) (is_called f rows l p)

    go : (t : Bool) → ltb y (length rows) ≡ t → cond t (place_among f rows y + 1) 0 ≤ count_if f rows
    go true e =
        let b = ltb-true y (length rows) e in
        let h = (first-is 0 (length rows) (is_called f rows l p)).holds (omega arith) in
        let w = (and-true (f (row_at rows y)) _ (and-true (f (row_at rows y) && eqb (label_of (row_at rows y)) l) _ h).0).0 in
        omega (arith, count-place f constant rows y b w)
    go false e = omega arith

-- Each slot has such a column.
pub columns-kept : (f : Row → Bool) (folded : List Row) (N : ℕ) (labels : List ℕ) (count : ℕ) (columns : List ℕ) → ColumnsOf f folded (length folded) N labels count columns → (j : ℕ) → j < N * count → slot_at columns j ≤ count_if f folded
columns-kept f folded N labels count columns C j h = elim (dec_lt 0 count) [
  | yes c ↦
      (let e : j / count * count + j % count ≡ j = div-add-mod' j count in
      let x = mod-lt j c in
      let p : j / count < N = elim (dec_lt (j / count) N) [
        | yes q ↦ q
        | no q ↦ absurd (let m : N ≤ j / count = omega arith in omega (arith, e, mul-le-mul_right count m))
      ] in
      let s = ap (slot_at columns) (sym e) ∙ C (j / count) (j % count) p x in
      omega (arith, s, column-le f folded (slot_at labels (j % count)) (j / count)))
  | no c ↦ absurd (let z : count ≡ 0 = omega arith in omega (arith, h, ap (λ (n : ℕ). N * n) z, mul-zero N))
]

-- A step of T is in one of the G groups.
pub group_of : (N G k t : ℕ) → 1 ≤ G → k < N → t < trace_steps N G k → t / N < G
group_of N G k t g b h = elim (dec_lt (t / N) G) [
  | yes q ↦ q
  | no q ↦ absurd
      (let m : G ≤ t / N = omega arith in
      let w : suc (G - 1) ≡ G = omega arith in
      omega (arith, h, mul-le-mul_right N m, div-add-mod' t N, suc-mul (G - 1) N, ap (λ (n : ℕ). n * N) w))
]
