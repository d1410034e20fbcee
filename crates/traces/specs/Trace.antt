-- A trace of the folded netlist taken back to the original: the change requests, "a failing trace taken back".
-- Interface: trace_steps, traced_values, trace_bytes, trace_length.
-- Assumes nothing.
use Rattle.std.specs.Prelude.{ℕ, ◌+◌, ◌-◌, ◌*◌, ◌/◌, ◌%◌, ◌&&◌, List, ◌++◌}
use Rattle.memory.specs.Lists.{count_if}
use Rattle.netlist.specs.Rows.{Row, is_input, is_unknown, is_named, is_unknown_named, has_row}
use Rattle.netlist.specs.Simulation.{RunValues}
use Rattle.netlist.specs.RunLayout.{values_from_bytes, choice_bytes, input_bytes}

-- T, the original's steps up to phase k of the last of G groups of N phases.
abbrev pub trace_steps : ℕ → ℕ → ℕ → ℕ
trace_steps N G k = (G - 1) * N + k + 1

-- What the original is given where the folded netlist of N phases is given `groups`: a kept input has at step t its value of phase t mod N in group t div N, a kept choice its value, and the rest is 0.
unfoldable pub traced_values : ℕ → List Row → RunValues → RunValues
traced_values N folded groups = record {
  choices = λ l. has_row (is_unknown_named l) folded && groups.choices l;
  inputs = λ t l p. has_row (is_named 1 l (t % N)) folded && groups.inputs (t / N) l (t % N);
}

-- The trace: the original's choices, then its inputs over T steps, in Run's layout; `choices` and `inputs` are the folded netlist's.
unfoldable pub trace_bytes : List Row → ℕ → List Row → ℕ → List ℕ → List ℕ → List ℕ
trace_bytes original N folded T choices inputs =
    let run = traced_values N folded (values_from_bytes folded choices inputs) in
    choice_bytes original run ++ input_bytes original run T

abbrev pub trace_length : List Row → ℕ → ℕ
trace_length original T = count_if is_unknown original + T * count_if is_input original
