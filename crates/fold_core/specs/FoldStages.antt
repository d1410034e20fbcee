-- What the stages behind the lasso hand on: the written fold, the clock entries that stay, and the answer's numbers.
-- Interface: FoldWritten, NumbersFit, numbers_from.
-- Assumes nothing.
use Rattle.std.specs.Prelude.{ℕ, ◌<◌, ◌≤◌, ◌≡◌, List, length}
use Rattle.memory.specs.Fields.{byte_at}
use Rattle.ternary.specs.Ternary.{Ternary}
use Rattle.netlist.specs.Limits.{most_phases, most_original_rows, most_folded_rows, fold_clock_entries, last_state}
use Rattle.netlist.specs.Rows.{Row}
use Rattle.netlist.specs.FileFormat.{file_in}
use Rattle.abstraction.specs.Fold.{fold_with}
use Rattle.lasso_finder.specs.declared.Clocks.{Clocks}
use Rattle.fold_memory.specs.WorkMap.{known_in, entry_offset}
use Rattle.fold_answers.specs.declared.FoldNumbers.{FoldNumbers}

-- The clock is what the work memory has of the first n rows in N phases.
abbrev pub KnownAs : (ℕ → ℕ → Ternary) → ℕ → ℕ → List ℕ → Type 0
KnownAs clock n N w = (i k : ℕ) → i < n → k < N → known_in w i k ≡ clock i k

-- The bytes of the clock entries are the same.
abbrev pub EntriesKept : List ℕ → List ℕ → Type 0
EntriesKept w w' = (x : ℕ) → entry_offset 0 ≤ x → x < entry_offset fold_clock_entries → byte_at w' x ≡ byte_at w x

-- The fold by such a clock is written, and has m rows.
pub record FoldWritten (rows : List Row) (N : ℕ) (result result' work work' : List ℕ) (m : ℕ) : Type 0 where
  pub counted : (clock : ℕ → ℕ → Ternary) → KnownAs clock (length rows) N work → m ≡ length (fold_with clock rows N)
  pub written : (clock : ℕ → ℕ → Ternary) → KnownAs clock (length rows) N work → result' ≡ file_in (fold_with clock rows N) result
  pub few : m ≤ most_folded_rows
  pub kept : EntriesKept work work'

-- What the numbers of an answer are at most.
pub record NumbersFit (clocks : Clocks) (before after : ℕ) : Type 0 where
  pub stem : clocks.stem ≤ last_state
  pub cycle : clocks.cycle ≤ last_state
  pub phases : clocks.phases ≤ most_phases
  pub used : clocks.used ≤ fold_clock_entries
  pub before-few : before ≤ most_original_rows
  pub after-few : after ≤ most_folded_rows

abbrev pub numbers_from : Clocks → ℕ → ℕ → FoldNumbers
numbers_from clocks before after = record { stem = clocks.stem; cycle = clocks.cycle; phases = clocks.phases; used = clocks.used; before = before; after = after }
