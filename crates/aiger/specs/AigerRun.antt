-- AIGER's own meaning, by variables and equations; nothing here speaks of rows but the last record, which says that rows run as these equations do.
-- Interface: AigerRun, ImportKeeps.
-- Assumes nothing.
use Rattle.std.specs.Prelude.{ℕ, suc, ◌<◌, ◌/◌, ◌≡◌, ◌↔◌, Bool, true, false, cond, ◌&&◌, List, length, get_or, eqb}
use Rattle.netlist.specs.Rows.{Row, HasInput, HasRegister, HasOutput}
use Rattle.netlist.specs.Simulation.{bool_logic, literal_value, RunValues, output_shows, register_holds}
use Rattle.aiger.specs.AigerText.{Aiger, line_at, number_at}
use Rattle.aiger.specs.AigerRows.{latch_line_of, output_line_of, gate_line_of}

-- What a latch starts as, ns its line: 0 without a third number and if that is 0, 1 if it is 1, else (it is the latch itself) as chosen.
abbrev pub starts_as : List ℕ → Bool → Bool
starts_as ns choice = cond (eqb (length ns) 3) (cond (eqb (get_or ns 2 0) 0) false (cond (eqb (get_or ns 2 0) 1) true choice)) false

-- A literal's value, where v gives each variable's value.
abbrev pub lit_value : (ℕ → Bool) → ℕ → Bool
lit_value v u = literal_value bool_logic v u

-- v t x is the value of variable x at step t. Input j has the run's values of label j and phase 0, latch j its choice of label j.
pub record AigerRun (a : Aiger) (run : RunValues) (v : ℕ → ℕ → Bool) : Type 0 where
  pub constant : (t : ℕ) → v t 0 ≡ false
  pub inputs : (t j : ℕ) → j < a.header.inputs → v t (number_at a j 0 / 2) ≡ run.inputs t j 0
  pub starts : (j : ℕ) → j < a.header.latches → v 0 (number_at a (latch_line_of a j) 0 / 2) ≡ starts_as (line_at a (latch_line_of a j)) (run.choices j)
  pub moves : (t j : ℕ) → j < a.header.latches → v (suc t) (number_at a (latch_line_of a j) 0 / 2) ≡ lit_value (v t) (number_at a (latch_line_of a j) 1)
  pub gates : (t j : ℕ) → j < a.header.gates → v t (number_at a (gate_line_of a j) 0 / 2) ≡ lit_value (v t) (number_at a (gate_line_of a j) 1) && lit_value (v t) (number_at a (gate_line_of a j) 2)

-- The rows run as the text says. A run's values go by position in the text, which is the label in the rows.
pub record ImportKeeps (a : Aiger) (rows : List Row) : Type 0 where
  -- inputs, latches and outputs are there by their positions, and no others
  pub has-inputs : (l p : ℕ) → HasInput rows l p ↔ ((l < a.header.inputs) × (p ≡ 0))
  pub has-latches : (l : ℕ) → HasRegister rows l ↔ (l < a.header.latches)
  pub has-outputs : (l p : ℕ) → HasOutput rows l p ↔ ((l < a.header.outputs) × (p ≡ 0))
  -- whatever a run is given, the equations have a solution
  pub runs : (run : RunValues) → (v : ℕ → ℕ → Bool) × AigerRun a run v
  -- in any solution output j shows its literal's value, and register j holds its latch's, at every step
  pub shows : (run : RunValues) (v : ℕ → ℕ → Bool) → AigerRun a run v → (t j : ℕ) → j < a.header.outputs → output_shows rows run j 0 t ≡ lit_value (v t) (number_at a (output_line_of a j) 0)
  pub holds : (run : RunValues) (v : ℕ → ℕ → Bool) → AigerRun a run v → (t j : ℕ) → j < a.header.latches → register_holds rows run j t ≡ v t (number_at a (latch_line_of a j) 0 / 2)
