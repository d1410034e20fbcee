-- What the steps of a run are given, and what one step leaves.
-- Interface: Given, StepReady, Stepped; ValuesRoom, TwoHalves, InputsFit, ValuesStand inside a step.
-- Assumes nothing.
use Rattle.std.specs.Prelude.{ℕ, ◌+◌, ◌-◌, ◌*◌, ◌≤◌, ◌≡◌, not, List, ◌⊎◌, length}
use Rattle.std.proofs.lemmas.List.Edits.{sets}
use Rattle.memory.specs.Lists.{count_if}
use Rattle.netlist.specs.Limits.{most_steps}
use Rattle.netlist.specs.Rows.{is_input, is_unknown, is_output}
use Rattle.netlist.specs.FileFormat.{netlist_of}
use Rattle.netlist.specs.WellFormed.{CheckedRows}
use Rattle.blockfile.specs.Ready.{Ready}
use Rattle.row_values.specs.Values.{IsBinary, bit_bytes}
use Rattle.row_values.specs.declared.Step.{Step}
use Rattle.simulate.specs.StepValues.{values_before, step_from, shown_bytes}

-- Memory for the values of n rows twice.
pub record ValuesRoom (n : ℕ) (work : List ℕ) : Type 0 where
  pub fits : n + n ≤ length work
  pub binary : IsBinary work

-- Memory for the values of n rows in the step s and, apart from them, in the last step.
pub record TwoHalves (n : ℕ) (s : Step) (work : List ℕ) : Type 0 where
  pub current-fits : s.current + n ≤ length work
  pub previous-fits : s.previous + n ≤ length work
  pub apart : (s.current + n ≤ s.previous) ⊎ (s.previous + n ≤ s.current)
  pub binary : IsBinary work

-- The step finds a value for each input of the file.
pub record InputsFit (f inputs : List ℕ) (s : Step) : Type 0 where
  pub count : s.base + count_if is_input (netlist_of f) ≤ length inputs
  pub binary : IsBinary inputs

-- What one step is given; its outputs' bytes go from `to` on.
pub record StepReady (f : List ℕ) (n nodes : ℕ) (inputs result : List ℕ) (to : ℕ) (work : List ℕ) (s : Step) : Type 0 where
  pub netlist : Ready CheckedRows f n
  pub nodes-are : nodes ≡ count_if (λ r. not (is_output r)) (netlist_of f)
  pub inputs-fit : InputsFit f inputs s
  pub result_fits : to + (n - nodes) ≤ length result
  pub halves : TwoHalves n s work

-- In the step s, which begins with memory v, memory w has the values of the first i rows from `current` on, and is else as v.
pub record ValuesStand (f inputs : List ℕ) (s : Step) (v : List ℕ) (i : ℕ) (w : List ℕ) : Type 0 where
  pub values : w ≡ sets v s.current (bit_bytes (values_before (netlist_of f) inputs v s i))

-- What a run of T steps over a file of n rows is given, beside memory for its values.
pub record Given (f : List ℕ) (n nodes ins T : ℕ) (choices inputs result : List ℕ) : Type 0 where
  pub netlist : Ready CheckedRows f n
  pub few-steps : T ≤ most_steps
  pub nodes-are : nodes ≡ count_if (λ r. not (is_output r)) (netlist_of f)
  pub inputs_are : ins ≡ count_if is_input (netlist_of f)
  pub choice-count : length choices ≡ count_if is_unknown (netlist_of f)
  pub choice-values : IsBinary choices
  pub input-count : length inputs ≡ T * ins
  pub input-values : IsBinary inputs
  pub result-holds : T * count_if is_output (netlist_of f) ≤ length result

-- The step s: from memory v and result r₀ to memory w and result r. The rows' values stand from `current` on, the outputs' bytes from `to` on.
pub record Stepped (f inputs : List ℕ) (s : Step) (to : ℕ) (v w r₀ r : List ℕ) : Type 0 where
  pub values : w ≡ sets v s.current (bit_bytes (step_from (netlist_of f) inputs v s))
  pub shown : r ≡ sets r₀ to (shown_bytes (netlist_of f) (step_from (netlist_of f) inputs v s))
