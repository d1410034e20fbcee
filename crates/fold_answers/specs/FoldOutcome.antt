-- What Fold answers and leaves in the result, for all arguments, and demand 3 between the file given and the file left: the scope paper, "Operations and lent memory" and "What demand 3 compares".
-- Interface: LeftFolded, FoldDone; CoreFolded adds the packed clock entries.
-- Assumes nothing.
use Rattle.std.specs.Prelude.{ℕ, ◌≤◌, ◌≡◌, List, length, Result}
use Rattle.netlist.specs.Limits.{fold_clock_entries}
use Rattle.netlist.specs.FileFormat.{netlist_of, file_left}
use Rattle.abstraction.specs.SameBehaviour.{SameBehaviour, StandsFor}
use Rattle.questions.specs.Questions.{no_refusal, file_refusal}
use Rattle.fold_questions.specs.FoldQuestions.{fold_refusal}
use Rattle.guarantees.specs.FoldGuarantee.{FoldGuarantee}
use Rattle.fold_memory.specs.WorkMap.{entries_in}
use Rattle.fold_answers.specs.FoldAnswers.{folding_refusal, numbers_in, used_in, fold_answered, numbers_of, entries_of, result_of}
use Rattle.fold_answers.specs.declared.FoldNumbers.{FoldNumbers}
use Rattle.fold_refusals.specs.declared.FoldRefusal.{FoldRefusal}

-- The file left, of N phases: Check accepts it, and it behaves as the file given does.
pub record LeftFolded (file : List ℕ) (N : ℕ) (left : List ℕ) : Type 0 where
  pub accepted : file_refusal left ≡ no_refusal
  pub stands : StandsFor (netlist_of file) N (netlist_of left)
  pub behaves : SameBehaviour (netlist_of file) N (netlist_of left)

-- Of the file given, the wish, the lengths of work and clock list, the result before and after, and the answer.
pub record FoldDone (file : List ℕ) (wish work clocks : ℕ) (result result' : List ℕ) (answer : Result FoldNumbers FoldRefusal) : Type 0 where
  pub refusal : folding_refusal answer ≡ fold_refusal file wish (length result) work clocks
  pub numbers : numbers_in answer ≡ numbers_of (fold_answered file wish (length result) work clocks)
  pub written : result' ≡ result_of (fold_answered file wish (length result) work clocks) result
  pub guarantee : folding_refusal answer ≡ no_refusal → FoldGuarantee file wish
  pub left : folding_refusal answer ≡ no_refusal → LeftFolded file (numbers_in answer).phases (file_left result' (numbers_in answer).after)

-- The same, and the entries in the work memory. Of work this only limits what is left: the entries are told, and the other bytes are the stages' scratch, which the rules leave open until Fold clears all of it.
pub record CoreFolded (file : List ℕ) (wish clocks : ℕ) (result result' work work' : List ℕ) (answer : Result FoldNumbers FoldRefusal) : Type 0 where
  pub done : FoldDone file wish (length work) clocks result result' answer
  pub entries : entries_in work' (used_in answer) ≡ entries_of (fold_answered file wish (length result) (length work) clocks)
  pub few : (used_in answer ≤ clocks) × (used_in answer ≤ fold_clock_entries)
