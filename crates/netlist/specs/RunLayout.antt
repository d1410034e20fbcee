-- Run's values as bytes: the scope paper, "Operations and lent memory". One byte for each X register in row order; T times one byte for each input in row order; T times one byte for each output in row order.
-- Interface: values_from_bytes, choice_bytes, input_bytes, run_bytes.
-- Assumes nothing.
use Rattle.std.specs.Prelude.{ℕ, ◌+◌, ◌*◌, Bool, cond, not, List, [], ◌∷◌, length, take, eqb}
use Rattle.memory.specs.Lists.{count_if, join_below}
use Rattle.memory.specs.Fields.{byte_at}
use Rattle.netlist.specs.Rows.{Row, is_input, is_unknown, label_of, phase_of, row_at, on_output, row_named}
use Rattle.netlist.specs.Simulation.{bool_logic, RunValues, run_value}

-- Of the rows that f counts, how many stand before row i.
abbrev pub place_among : (Row → Bool) → List Row → ℕ → ℕ
place_among f rows i = count_if f (take i rows)

-- The values that the two lists of bytes give; 0 where they have none.
unfoldable pub values_from_bytes : List Row → List ℕ → List ℕ → RunValues
values_from_bytes rows choices inputs = record {
  choices = λ l. not (eqb (byte_at choices (place_among is_unknown rows (row_named 2 l 0 rows))) 0);
  inputs = λ t l p. not (eqb (byte_at inputs (t * count_if is_input rows + place_among is_input rows (row_named 1 l p rows))) 0);
}

-- x of each row that f counts, in row order.
abbrev pub each_that : (Row → Bool) → (Row → ℕ) → List Row → List ℕ
each_that f x rows = join_below (length rows) (λ i. cond (f (row_at rows i)) (x (row_at rows i) ∷ []) [])

-- The bytes that give a run's values, the inverse of `values_from_bytes`: one for each X register, and for T steps one for each input.
unfoldable pub choice_bytes : List Row → RunValues → List ℕ
choice_bytes rows run = each_that is_unknown (λ r. cond (run.choices (label_of r)) 1 0) rows

unfoldable pub input_bytes : List Row → RunValues → ℕ → List ℕ
input_bytes rows run T = join_below T (λ t. each_that is_input (λ r. cond (run.inputs t (label_of r) (phase_of r)) 1 0) rows)

-- What the outputs show at step t, a byte each.
unfoldable pub step_bytes : List Row → RunValues → ℕ → List ℕ
step_bytes rows run t = join_below (length rows) (λ i. on_output [] (λ a l p. cond (run_value bool_logic rows run.choices run.inputs t i) 1 0 ∷ []) (row_at rows i))

-- Run's answer for T steps.
unfoldable pub run_bytes : List Row → List ℕ → List ℕ → ℕ → List ℕ
run_bytes rows choices inputs T = join_below T (step_bytes rows (values_from_bytes rows choices inputs))
