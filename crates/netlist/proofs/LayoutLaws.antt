-- A run's values as bytes, and back.
-- Assumes nothing.
use Prim.Native.Nat.{ℕ, zero, suc, ◌+◌, ◌-◌, ◌*◌, ◌<◌, ◌≤◌}
use mathlib.Core.Path.{◌≡◌, refl, sym, ap, ◌∙◌}
use mathlib.Core.Bool.{Bool, true, false, cond, not}
use mathlib.Core.List.{List, [], ◌∷◌, ◌++◌}
use native.Mathlib.Omega.{arith}
use native.Mathlib.Decide.{dec_lt}
use native.Mathlib.Nat.{mul_comm}
use native.Mathlib.Numerals.{add-one}
use lib.ListN.{length, take, length-append, get_or-append}
use lib.Seq.{take-length, get_or-append-add}
use lib.Dec.{eqb}
use Rattle.memory.specs.Lists.{count_if, join_below}
use Rattle.memory.specs.Fields.{byte_at}
use Rattle.memory.proofs.TestLaws.{cond-case, last_or}
use Rattle.memory.proofs.ListLaws.{join-length, join-at, count_next, count-place}
use Rattle.netlist.specs.Rows.{Row, constant, row_at, kind_of, label_of, phase_of, has_name, is_input, is_unknown, is_unknown_named, is_named, first_row, row_named, HasInput, HasUnknown}
use Rattle.netlist.specs.Simulation.{RunValues}
use Rattle.netlist.specs.RunLayout.{place_among, each_that, choice_bytes, input_bytes, values_from_bytes}
use Rattle.netlist.specs.WellFormed.{NamesUnique}
use Rattle.netlist.proofs.RowLaws.{named-input, unknown-is, has-at, named-place}

module _ (f : Row → Bool) (x : Row → ℕ) (rows : List Row) where
  abbrev at : ℕ → List ℕ
  at i = cond (f (row_at rows i)) (x (row_at rows i) ∷ []) []

  count-suc : (n : ℕ) → n < length rows → count_if f (take (suc n) rows) ≡ count_if f (take n rows) + cond (f (row_at rows n)) 1 0
  count-suc n h = ap (λ (m : ℕ). count_if f (take m rows)) (sym (add-one n)) ∙ count_next f constant rows n h

  at_length : (n : ℕ) → length (at n) ≡ cond (f (row_at rows n)) 1 0
  at_length n = go (f (row_at rows n))
    where
      go : (t : Bool) → length (cond t (x (row_at rows n) ∷ []) []) ≡ cond t 1 0
      go true = refl
      go false = refl

  upto-length : (n : ℕ) → n ≤ length rows → length (join_below n at) ≡ count_if f (take n rows)
  upto-length zero h = refl
  upto-length (suc n) h = omega (arith, length-append (join_below n at) (at n), upto-length n (omega arith), at_length n, count-suc n h)

  pub each-length : length (each_that f x rows) ≡ count_if f rows
  each-length = upto-length (length rows) (omega arith) ∙ ap (count_if f) (take-length rows)

  -- A row that is counted stands before those after it.
  place-lt : (i n : ℕ) → i < n → n ≤ length rows → f (row_at rows i) ≡ true → place_among f rows i < count_if f (take n rows)
  place-lt i zero l h e = absurd (omega arith)
  place-lt i (suc n) l h e =
      last_or i n l
      (λ k. omega (arith, place-lt i n k (omega arith) e, count-suc n h))
      (λ k. let c = count-suc n h in let o : cond {A = ℕ} (f (row_at rows n)) 1 0 ≡ 1 = rw (← k, e) in omega (arith, ap (λ (j : ℕ). count_if f (take j rows)) k, c, o))

  upto-at : (i n : ℕ) → i < n → n ≤ length rows → f (row_at rows i) ≡ true → byte_at (join_below n at) (place_among f rows i) ≡ x (row_at rows i)
  upto-at i zero l h e = absurd (omega arith)
  upto-at i (suc n) l h e =
      last_or i n l
      (λ k. get_or-append (join_below n at) (at n) 0 (place_among f rows i) (omega (arith, place-lt i n k (omega arith) e, upto-length n (omega arith))) ∙ upto-at i n k (omega arith) e)
      (λ k.
      let p : place_among f rows i ≡ length (join_below n at) + 0 = omega (arith, ap (λ (j : ℕ). count_if f (take j rows)) k, upto-length n (omega arith)) in
      ap (byte_at (join_below n at ++ at n)) p ∙ get_or-append-add (join_below n at) (at n) 0 0 ∙ (rw (← k, e)))

  pub each_at : (i : ℕ) → i < length rows → f (row_at rows i) ≡ true → byte_at (each_that f x rows) (place_among f rows i) ≡ x (row_at rows i)
  each_at i l e = upto-at i (length rows) l (omega arith) e

-- No byte is above 1.
abbrev pub Binary : List ℕ → Type 0
Binary vs = (d : ℕ) → byte_at vs d ≤ 1

append-binary : (xs ys : List ℕ) → Binary xs → Binary ys → Binary (xs ++ ys)
append-binary xs ys p q d = elim (dec_lt d (length xs)) [
  | yes l ↦ rw (get_or-append xs ys 0 d l) (p d)
  | no l ↦ (let e : d ≡ length xs + (d - length xs) = omega arith in rw (ap (byte_at (xs ++ ys)) e ∙ get_or-append-add xs ys (d - length xs) 0) (q (d - length xs)))
]

join-binary : (n : ℕ) (f : ℕ → List ℕ) → ((j : ℕ) → Binary (f j)) → Binary (join_below n f)
join-binary zero f h = λ d. omega arith
join-binary (suc n) f h = append-binary (join_below n f) (f n) (join-binary n f h) (h n)

value-binary : (v : Bool) → Binary (cond v 1 0 ∷ [])
value-binary true zero = omega arith
value-binary false zero = omega arith
value-binary v (suc d) = omega arith

each-binary : (f : Row → Bool) (v : Row → Bool) (rows : List Row) → Binary (each_that f (λ r. cond (v r) 1 0) rows)
each-binary f v rows = join-binary (length rows) (λ i. cond (f (row_at rows i)) (cond (v (row_at rows i)) 1 0 ∷ []) []) (λ i. cond-case Binary (f (row_at rows i)) _ _ (λ _. value-binary (v (row_at rows i))) (λ _ d. omega arith))

byte-back : (v : Bool) → not (eqb (cond v 1 0) 0) ≡ v
byte-back true = refl
byte-back false = refl

module _ (rows : List Row) (unique : NamesUnique rows) (run : RunValues) (T : ℕ) where
  -- The choices and inputs that a row asks for come back.
  pub choice-back : (l : ℕ) → HasUnknown rows l → (values_from_bytes rows (choice_bytes rows run) (input_bytes rows run T)).choices l ≡ run.choices l
  unfolding values_from_bytes choice_bytes
  choice-back l has =
      let y = first_row (is_unknown_named l) rows in
      let h = has-at (is_unknown_named l) rows has in
      let u = unknown-is l (row_at rows y) h.1 in
      let e : y ≡ row_named 2 l 0 rows = sym (named-place rows unique y h.0 2 l 0 (ap has_name u.1) (ap kind_of u.1) (ap label_of u.1) (ap phase_of u.1)) in
      rw (← e, each_at is_unknown (λ r. cond (run.choices (label_of r)) 1 0) rows y h.0 (ap is_unknown u.1), u.1) (byte-back (run.choices l))

  pub input_back : (t l p : ℕ) → t < T → HasInput rows l p → (values_from_bytes rows (choice_bytes rows run) (input_bytes rows run T)).inputs t l p ≡ run.inputs t l p
  unfolding values_from_bytes input_bytes
  input_back t l p b has =
      let y = row_named 1 l p rows in
      let h = has-at (is_named 1 l p) rows has in
      let u = named-input l p (row_at rows y) h.1 in
      let I = count_if is_input rows in
      let each : ℕ → List ℕ = λ s. each_that is_input (λ r. cond (run.inputs s (label_of r) (phase_of r)) 1 0) rows in
      let k : is_input (row_at rows y) ≡ true = ap is_input u in
      let q : t * I + place_among is_input rows y ≡ I * t + place_among is_input rows y = ap (λ (n : ℕ). n + place_among is_input rows y) (mul_comm t I) in
      rw (q, join-at I each T (λ s _. each-length is_input (λ r. cond (run.inputs s (label_of r) (phase_of r)) 1 0) rows) t (place_among is_input rows y) 0 b (count-place is_input constant rows y h.0 k), each_at is_input (λ r. cond (run.inputs t (label_of r) (phase_of r)) 1 0) rows y h.0 k, u) (byte-back (run.inputs t l p))

module _ (rows : List Row) (run : RunValues) where
  pub choices-length : length (choice_bytes rows run) ≡ count_if is_unknown rows
  unfolding choice_bytes
  choices-length = each-length is_unknown (λ r. cond (run.choices (label_of r)) 1 0) rows

  pub inputs-length : (T : ℕ) → length (input_bytes rows run T) ≡ T * count_if is_input rows
  unfolding input_bytes
  inputs-length T = join-length (count_if is_input rows) (λ s. each_that is_input (λ r. cond (run.inputs s (label_of r) (phase_of r)) 1 0) rows) T (λ s _. each-length is_input (λ r. cond (run.inputs s (label_of r) (phase_of r)) 1 0) rows) ∙ mul_comm (count_if is_input rows) T

  pub choices-binary : Binary (choice_bytes rows run)
  unfolding choice_bytes
  choices-binary = each-binary is_unknown (λ r. run.choices (label_of r)) rows

  pub inputs-binary : (T : ℕ) → Binary (input_bytes rows run T)
  unfolding input_bytes
  inputs-binary T = join-binary T (λ t. each_that is_input (λ r. cond (run.inputs t (label_of r) (phase_of r)) 1 0) rows) (λ t. each-binary is_input (λ r. run.inputs t (label_of r) (phase_of r)) rows)
