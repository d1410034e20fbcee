-- The code's counts as the model's.
-- Assumes nothing.
use Rattle.std.specs.Prelude.{ℕ, ◌≤◌}
use Rattle.questions.specs.Questions.{Counts}
use Rattle.blockfile.specs.declared.count.Counts as code

abbrev pub counts_in : code.Counts → Counts
counts_in c = record { nodes = c.nodes; inputs = c.inputs; registers = c.registers; unknown = c.unknown; outputs = c.outputs }

-- Each count is at most m.
pub record EachAtMost (c : Counts) (m : ℕ) : Type 0 where
  pub nodes : c.nodes ≤ m
  pub inputs : c.inputs ≤ m
  pub registers : c.registers ≤ m
  pub unknown : c.unknown ≤ m
  pub outputs : c.outputs ≤ m
