-- A netlist whose gates stand in any order, read by its equations: the change requests, "gates in any order".
-- Each row has one equation a step: a gate has the value that its kind gives of the values of the nodes that it names, wherever these stand. What satisfies all of them is the netlist's run.
-- Interface: Solves, SameRuns.
-- Assumes nothing.
use Rattle.std.specs.Prelude.{ℕ, zero, suc, ◌<◌, ◌≡◌, ◌↔◌, Bool, List, length}
use Rattle.netlist.specs.Rows.{Row, row_at, is_named, row_named, HasRow, HasUnknown, HasRegister, HasOutput}
use Rattle.netlist.specs.Simulation.{bool_logic, row_value, reset_value, next_value, RunValues, output_shows, register_holds}

-- What row j holds at step t if it is a register: v has the value of each row at each step.
abbrev pub held_by : List Row → RunValues → (ℕ → ℕ → Bool) → ℕ → ℕ → Bool
held_by rows run v zero j = reset_value bool_logic run.choices (row_at rows j)
held_by rows run v (suc t) j = next_value bool_logic (v t) (row_at rows j)

-- v satisfies every equation: v t j is the value of row j at step t.
abbrev pub Solves : List Row → RunValues → (ℕ → ℕ → Bool) → Type 0
Solves rows run v = (t j : ℕ) → j < length rows → v t j ≡ row_value bool_logic (held_by rows run v t j) (run.inputs t) (v t) (row_at rows j)

-- The sorted netlist's runs are those of the original, read by its equations. A run's values go by label, so both netlists are given the same.
pub record SameRuns (original sorted : List Row) : Type 0 where
  -- whatever a run is given, the original's equations have a solution, and only one
  pub solved : (run : RunValues) → (v : ℕ → ℕ → Bool) × Solves original run v
  pub once : (run : RunValues) (v w : ℕ → ℕ → Bool) → Solves original run v → Solves original run w → (t j : ℕ) → j < length original → v t j ≡ w t j
  -- both have the same inputs, registers and outputs, by kind, label and phase, and the same X registers
  pub names : (k l p : ℕ) → HasRow (is_named k l p) original ↔ HasRow (is_named k l p) sorted
  pub unknowns : (l : ℕ) → HasUnknown original l ↔ HasUnknown sorted l
  -- every output shows what the original's does, at every step of every run, and every register holds what the original's does
  pub outputs : (run : RunValues) (v : ℕ → ℕ → Bool) → Solves original run v → (t l p : ℕ) → HasOutput original l p → output_shows sorted run l p t ≡ v t (row_named 6 l p original)
  pub registers : (run : RunValues) (v : ℕ → ℕ → Bool) → Solves original run v → (t l : ℕ) → HasRegister original l → register_holds sorted run l t ≡ v t (row_named 2 l 0 original)
