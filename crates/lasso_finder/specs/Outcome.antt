-- What the analysis of a netlist answers, and what it leaves in the work memory.
-- Interface: analysis_of, Analysed.
-- Assumes nothing.
use Rattle.std.specs.Prelude.{ℕ, ◌<◌, ◌≡◌, List, length, Option, Some, None}
use Rattle.std.proofs.Math.Option.{Option as Maybe, none, some}
use Rattle.memory.specs.Frames.{KeptOutside}
use Rattle.netlist.specs.Limits.{most_original_rows}
use Rattle.netlist.specs.Rows.{Row}
use Rattle.lasso.specs.LassoSearch.{Lasso, find_lasso}
use Rattle.lasso.specs.Generators.{periods_of, used_count, phase_count, clock_value}
use Rattle.lasso.specs.ClockEntries.{clock_entries}
use Rattle.fold_memory.specs.WorkMap.{value_offset, known_offset, known_in, entries_in}
use Rattle.lasso_finder.specs.declared.Clocks.{Clocks}

-- The phase count of the lasso z.
abbrev pub phases_of : List Row → ℕ → Lasso → ℕ
phases_of rows wish z = phase_count wish (periods_of rows z)

abbrev pub analysed_clocks : List Row → ℕ → Lasso → Clocks
analysed_clocks rows wish z = record { stem = z.stem; cycle = z.cycle; phases = phases_of rows wish z; used = used_count (periods_of rows z) (phases_of rows wish z) }

abbrev pub analysis_of : List Row → ℕ → Maybe Lasso → Option Clocks
analysis_of rows wish none = None
analysis_of rows wish (some z) = Some (analysed_clocks rows wish z)

-- The answer; if there is a lasso, what is known of each row in each phase, and the clock entries. w is the memory before, w' after.
pub record Analysed (rows : List Row) (wish : ℕ) (w w' : List ℕ) (r : Option Clocks) : Type 0 where
  pub answer : r ≡ analysis_of rows wish (find_lasso rows)
  pub known : (z : Lasso) → find_lasso rows ≡ some z → (i k : ℕ) → i < length rows → k < phases_of rows wish z → known_in w' i k ≡ clock_value rows (periods_of rows z) (phases_of rows wish z) i k
  pub entries : (z : Lasso) → find_lasso rows ≡ some z → entries_in w' (used_count (periods_of rows z) (phases_of rows wish z)) ≡ clock_entries rows (periods_of rows z) (phases_of rows wish z)
  pub kept : KeptOutside (value_offset 0) (known_offset most_original_rows) w w'
