-- What Fold asks, in the scope paper's words and in order: 1 to 10 of the file, then 11 to 16. `RefusalWords` says what a refusal means.
-- Interface: MemoryRight (15), LassoWords (16), asked_of_original (11 to 13), asked_by_fold.
-- Assumes nothing.
use Rattle.std.specs.Prelude.{ℕ, ◌≤◌, ◌≡◌, List, [], ◌∷◌, ◌++◌, length}
use Rattle.memory.specs.Lists.{count_if, join_below}
use Rattle.netlist.specs.Limits.{most_phases, most_original_rows, most_original_registers, fold_result_bytes, fold_work_bytes, fold_clock_entries, last_state}
use Rattle.netlist.specs.Rows.{Row, row_at, phase_of, is_register}
use Rattle.netlist.specs.FileFormat.{netlist_of}
use Rattle.lasso.specs.LassoSearch.{FirstRepeat}
use Rattle.questions.specs.RefusalWords.{Asked, ask, asked_of_file}

-- 15: what Fold is lent is long enough.
pub record MemoryRight (result work clocks : ℕ) : Type 0 where
  pub result-long : fold_result_bytes ≤ result
  pub work-long : fold_work_bytes ≤ work
  pub clocks-long : fold_clock_entries ≤ clocks

-- 16: one of states 1 to 256 equals an earlier one; m is the first that does, and equals n.
abbrev pub LassoWords : List Row → Type 0
LassoWords rows = (n m : ℕ) × FirstRepeat rows n m × (m ≤ last_state)

-- Of the rows alone: 13 of each row in turn.
unfoldable pub asked_of_original : List Row → List Asked
asked_of_original rows =
    ask 11 0 (length rows ≤ most_original_rows)
    ∷ ask 12 0 (count_if is_register rows ≤ most_original_registers)
    ∷ join_below (length rows) (λ i. ask 13 i (phase_of (row_at rows i) ≡ 0) ∷ [])

-- Fold asks 1 to 10 of the file, and goes on with 11 to 16.
unfoldable pub asked_by_fold : List ℕ → ℕ → ℕ → ℕ → ℕ → List Asked
asked_by_fold file wish result work clocks =
    let rows = netlist_of file in
    asked_of_file file
    ++ (asked_of_original rows
    ++ (ask 14 0 (wish ≤ most_phases) ∷ ask 15 0 (MemoryRight result work clocks) ∷ ask 16 0 (LassoWords rows) ∷ []))
