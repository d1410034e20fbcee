-- What holds of a fold that is not refused: the scope paper, "The fold" and "What demand 3 compares".
-- Interface: FoldGuarantee.
-- Assumes nothing.
use Rattle.std.specs.Prelude.{ℕ, ◌≤◌, ◌≡◌, List, length}
use Rattle.std.proofs.Math.Option.{some}
use Rattle.memory.specs.Fields.{IsBytes}
use Rattle.netlist.specs.Limits.{most_phases, most_folded_rows, fold_result_bytes, fold_clock_entries}
use Rattle.netlist.specs.FileFormat.{netlist_of, file_of}
use Rattle.abstraction.specs.Fold.{FoldAnswer, fold_netlist, AnswerWords}
use Rattle.abstraction.specs.SameBehaviour.{SameBehaviour, StandsFor}
use Rattle.questions.specs.Questions.{no_refusal, file_refusal}

-- Of the file given and the wish: there is an answer, and the netlist in it is the original's fold.
pub record FoldGuarantee (file : List ℕ) (wish : ℕ) : Type 0 where
  pub answer : FoldAnswer
  pub folds : fold_netlist (netlist_of file) wish ≡ some answer
  -- stem, cycle, N, used generators, row counts and the clock list are those of the paper
  pub words : AnswerWords (netlist_of file) wish answer
  -- N is 1 to 8, and the folded netlist has 1 to 8,064 rows; its file fits the result, and its clock entries the list
  pub phases : (1 ≤ answer.phases) × (answer.phases ≤ most_phases)
  pub rows : (1 ≤ length answer.rows) × (length answer.rows ≤ most_folded_rows)
  pub fits : length (file_of answer.rows) ≤ fold_result_bytes
  pub clocks-fit : length answer.clocks ≤ fold_clock_entries
  -- the file written of it is one of bytes that Check accepts, and is read as the folded netlist
  pub bytes : IsBytes (file_of answer.rows)
  pub accepted : file_refusal (file_of answer.rows) ≡ no_refusal
  pub read_back : netlist_of (file_of answer.rows) ≡ answer.rows
  -- each of its inputs, registers and outputs stands for one of the original
  pub stands : StandsFor (netlist_of file) answer.phases answer.rows
  -- demand 3
  pub behaves : SameBehaviour (netlist_of file) answer.phases answer.rows
