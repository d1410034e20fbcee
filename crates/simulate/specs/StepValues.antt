-- The values of a step, and what they rest on in lent memory: the state, the inputs, the choices.
-- Interface: state_from, next_step, step_inputs, reset_choices, values_before, step_from, shown_bytes.
-- Assumes nothing.
use Rattle.std.specs.Prelude.{ℕ, ◌+◌, Bool, false, List, [], ◌∷◌, length}
use Rattle.memory.specs.Lists.{join_below, tabulate}
use Rattle.netlist.specs.Rows.{Row, is_input, is_unknown, row_at, on_output, row_named}
use Rattle.netlist.specs.Simulation.{bool_logic, value_at, values_up_to, step_values}
use Rattle.netlist.specs.RunLayout.{place_among}
use Rattle.row_values.specs.Values.{truth_at, bit_byte, held_in}
use Rattle.row_values.specs.declared.Step.{Step}

-- The state that the step s begins with.
abbrev pub state_from : List Row → List ℕ → Step → List Bool
state_from rows work s = tabulate (length rows) (λ i. held_in work s i (row_at rows i))

-- The step after s, whose inputs stand from `base` on.
abbrev pub next_step : Step → ℕ → Step
next_step s base = record { base = base; current = s.previous; previous = s.current; initial = false }

-- The inputs of the step whose bytes stand from `base` on, by label and phase.
abbrev pub step_inputs : List Row → List ℕ → ℕ → ℕ → ℕ → Bool
step_inputs rows inputs base l p = truth_at inputs (base + place_among is_input rows (row_named 1 l p rows))

-- What the X registers start as, by label.
abbrev pub reset_choices : List Row → List ℕ → ℕ → Bool
reset_choices rows choices l = truth_at choices (place_among is_unknown rows (row_named 2 l 0 rows))

-- The values of the first i rows in the step s, which begins with this memory.
abbrev pub values_before : List Row → List ℕ → List ℕ → Step → ℕ → List Bool
values_before rows inputs work s i = values_up_to bool_logic rows (state_from rows work s) (step_inputs rows inputs s.base) i

-- The values of all rows in that step.
abbrev pub step_from : List Row → List ℕ → List ℕ → Step → List Bool
step_from rows inputs work s = step_values bool_logic rows (state_from rows work s) (step_inputs rows inputs s.base)

-- What the outputs show of the rows' values, a byte each.
unfoldable pub shown_bytes : List Row → List Bool → List ℕ
shown_bytes rows vs = join_below (length rows) (λ i. on_output [] (λ a l p. bit_byte (value_at bool_logic vs i) ∷ []) (row_at rows i))
