-- The parts of Check: what is asked of blocks and of rows, and what the row walk knows of the file.
-- Assumes nothing.
use Rattle.std.specs.Prelude.{ℕ, zero, suc, ◌+◌, ◌-◌, ◌*◌, ◌≤◌, ◌≡◌, Bool, List, Result, Ok, Err}
use Rattle.memory.specs.Fields.{byte_at}
use Rattle.netlist.specs.Rows.{Row}
use Rattle.netlist.specs.FileFormat.{block_count, block_at, fields_of, netlist_of}
use Rattle.questions.specs.Questions.{Refusal, no_refusal, item_questions, block_questions, row_questions}
use Rattle.questions.specs.QuestionWords.{LengthWords}
use Rattle.name_marks.specs.Marks.{NamesMarked}
use Rattle.accept.specs.declared.FileRefusal.{FileRefusal}
use Rattle.accept.specs.Refusals.{refusal_in}

abbrev pub part_refusal : Result Unit FileRefusal → Refusal
part_refusal (Ok _) = no_refusal
part_refusal (Err r) = refusal_in r

-- Of one block or row: n is the number of its first no, or 0.
abbrev pub refusal_at : ℕ → ℕ → Refusal
refusal_at zero place = no_refusal
refusal_at (suc n) place = record { number = suc n; place = place }

-- Questions 2 to 5 of block B, and of all blocks.
abbrev pub block_asked : List ℕ → ℕ → ℕ
block_asked f B = block_questions (block_count f) B (block_at f B)

abbrev pub blocks_refusal : List ℕ → Refusal
blocks_refusal f = item_questions (block_count f) (block_asked f)

-- The file is whole blocks, 1 to the most, and its last one counts 1 to 63 rows.
pub record BlocksRight (f : List ℕ) : Type 0 where
  pub size : LengthWords f
  pub last_some : 1 ≤ byte_at f (512 * (block_count f - 1) + 2)
  pub last-most : byte_at f (512 * (block_count f - 1) + 2) ≤ 63

-- Questions 6 to 9 of row i, and the marks afterwards; `operand` says what a gate's operands may name.
pub record RowAnswered (operand : List Row → ℕ → ℕ → Bool) (f : List ℕ) (i : ℕ) (few : Bool) (answer : Result Unit FileRefusal) (marks : List ℕ) : Type 0 where
  pub refusal : part_refusal answer ≡ refusal_at (row_questions operand (fields_of f) i) i
  pub names : row_questions operand (fields_of f) i ≡ 0 → NamesMarked few (netlist_of f) (i + 1) marks
