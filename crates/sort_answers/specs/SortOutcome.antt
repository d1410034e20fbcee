-- The entire outcome of Sort, for all arguments: the change requests, "gates in any order".
-- Interface: LeftSorted, Sorted.
-- Assumes nothing.
use Rattle.std.specs.Prelude.{◌≡◌, List, ℕ, length, replicate, Result}
use Rattle.netlist.specs.FileFormat.{netlist_of, file_in, file_left}
use Rattle.questions.specs.Questions.{no_refusal, unless_refused, file_refusal}
use Rattle.ordering.specs.GateOrder.{sorted_netlist}
use Rattle.ordering.specs.Equations.{SameRuns}
use Rattle.ordering.specs.SortQuestions.{sort_refusal}
use Rattle.ordering.specs.SortGuarantee.{SortGuarantee}
use Rattle.sort_answers.specs.SortAnswers.{sorting_refusal, rows_in}
use Rattle.sort_answers.specs.declared.SortRefusal.{SortRefusal}

-- The file left: Check accepts it, and it runs as the file given does.
pub record LeftSorted (file left : List ℕ) : Type 0 where
  pub accepted : file_refusal left ≡ no_refusal
  pub runs : SameRuns (netlist_of file) (netlist_of left)

-- Result and work before and after. A refusal leaves the result as it was.
pub record Sorted (file result result' work work' : List ℕ) (answer : Result ℕ SortRefusal) : Type 0 where
  pub refusal : sorting_refusal answer ≡ sort_refusal file (length result) (length work)
  pub rows : rows_in answer ≡ unless_refused (sorting_refusal answer) (length (netlist_of file)) 0
  pub written : result' ≡ unless_refused (sorting_refusal answer) (file_in (sorted_netlist (netlist_of file)) result) result
  pub cleared : work' ≡ replicate (length work) 0
  pub guarantee : sorting_refusal answer ≡ no_refusal → SortGuarantee file
  pub left : sorting_refusal answer ≡ no_refusal → LeftSorted file (file_left result' (rows_in answer))
