-- The entire outcome of each operation as C callers get it: the scope paper, "Questions, in order" and "Operations and lent memory", and the change requests.
-- Interface: count_numbers, ShownFlat, RanFlat, FoldedFlat, SortedFlat, ImportedFlat, TracedFlat; Check's is `refusal_numbers` of `file_refusal`.
-- Assumes nothing.
use Rattle.std.specs.Prelude.{ℕ, ◌≡◌, cond, List, eqb, take, drop, Result}
use Rattle.netlist.specs.FileFormat.{netlist_of}
use Rattle.questions.specs.Questions.{unless_refused, file_refusal, counts_of}
use Rattle.show.specs.ShowOutcome.{ShownBytes, part_offset}
use Rattle.run_answers.specs.Ran.{Ran}
use Rattle.run_answers.specs.RunAnswers.{run_answered}
use Rattle.run_answers.specs.declared.RunRefusal.{RunRefusal}
use Rattle.clock_list.specs.declared.Clock.{Clock}
use Rattle.fold_refusals.specs.declared.FoldRefusal.{FoldRefusal}
use Rattle.fold_answers.specs.declared.FoldNumbers.{FoldNumbers}
use Rattle.fold_answers.specs.FoldedOutcome.{Folded}
use Rattle.sort_answers.specs.SortAnswers.{sorting_refusal, rows_in}
use Rattle.sort_answers.specs.SortOutcome.{Sorted}
use Rattle.sort_answers.specs.declared.SortRefusal.{SortRefusal}
use Rattle.import_answers.specs.ImportAnswers as imports
use Rattle.import_answers.specs.ImportOutcome.{Imported}
use Rattle.import_answers.specs.declared.ImportRefusal.{ImportRefusal}
use Rattle.trace_answers.specs.Traced.{Traced}
use Rattle.trace_answers.specs.declared.TraceRefusal.{TraceRefusal}
use Rattle.c_answers.specs.AnswerNumbers.{refusal_numbers, accepted_counts, refused_counts, folded_numbers, written_numbers, traced_numbers}
use Rattle.c_answers.specs.declared.PfRefusal.{PfRefusal}
use Rattle.c_answers.specs.declared.PfCounts.{PfCounts}
use Rattle.c_answers.specs.declared.PfShown.{PfShown}
use Rattle.c_answers.specs.declared.PfFolded.{PfFolded}
use Rattle.c_answers.specs.declared.PfWritten.{PfWritten}
use Rattle.c_answers.specs.declared.PfTraced.{PfTraced}

abbrev pub count_numbers : List ℕ → PfCounts
count_numbers file = unless_refused (file_refusal file) (accepted_counts (counts_of (netlist_of file))) (refused_counts (file_refusal file))

-- The part is told by its first byte and its size in the file; the outcome is Show's.
pub record ShownFlat (file : List ℕ) (block : ℕ) (r : PfShown) : Type 0 where
  pub shown : ShownBytes file block (take r.size (drop r.offset file)) r.number r.place
  pub offset-is : r.offset ≡ part_offset r.number block
  pub size_is : r.size ≡ cond (eqb r.number 0) 504 0

-- Run's outcome, with its answer as numbers.
pub record RanFlat (file : List ℕ) (T : ℕ) (choices inputs result result' work work' : List ℕ) (r : PfRefusal) : Type 0 where
  pub answer : Result Unit RunRefusal
  pub ran : Ran file T choices inputs result result' work work' answer
  pub flat : r ≡ refusal_numbers (run_answered answer)

-- Fold's outcome, with its answer as numbers.
pub record FoldedFlat (file : List ℕ) (wish : ℕ) (result result' work work' : List ℕ) (clocks clocks' : List Clock) (r : PfFolded) : Type 0 where
  pub answer : Result FoldNumbers FoldRefusal
  pub folded : Folded file wish result result' work work' clocks clocks' answer
  pub flat : r ≡ folded_numbers answer

-- Sort's outcome, with its answer as numbers.
pub record SortedFlat (file result result' work work' : List ℕ) (r : PfWritten) : Type 0 where
  pub answer : Result ℕ SortRefusal
  pub sorted : Sorted file result result' work work' answer
  pub flat : r ≡ written_numbers (sorting_refusal answer) (rows_in answer)

-- Import's outcome, with its answer as numbers.
pub record ImportedFlat (text result result' work work' : List ℕ) (r : PfWritten) : Type 0 where
  pub answer : Result ℕ ImportRefusal
  pub imported : Imported text result result' work work' answer
  pub flat : r ≡ written_numbers (imports.importing_refusal answer) (imports.rows_in answer)

-- Trace's outcome, with its answer as numbers.
pub record TracedFlat (file : List ℕ) (wish G k : ℕ) (choices inputs result result' work work' trace trace' : List ℕ) (r : PfTraced) : Type 0 where
  pub answer : Result ℕ TraceRefusal
  pub traced : Traced file wish G k choices inputs result result' work work' trace trace' answer
  pub flat : r ≡ traced_numbers answer
