-- Fold's answers as the scope paper's numbers and places, and the fold that they are of.
-- Interface: folding_refusal, numbers_in, used_in; fold_answered, numbers_of, entries_of, result_of.
-- Assumes nothing.
use Rattle.std.specs.Prelude.{ℕ, List, [], Result, Ok, Err}
use Rattle.std.proofs.Math.Option.{Option, none, some}
use Rattle.netlist.specs.FileFormat.{netlist_of, file_in}
use Rattle.lasso.specs.ClockEntries.{ClockEntry}
use Rattle.abstraction.specs.Fold.{FoldAnswer, fold_netlist}
use Rattle.questions.specs.Questions.{Refusal, no_refusal, unless_refused}
use Rattle.fold_questions.specs.FoldQuestions.{fold_refusal}
use Rattle.fold_refusals.specs.FoldRefusals.{fold_refusal_in}
use Rattle.fold_refusals.specs.declared.FoldRefusal.{FoldRefusal}
use Rattle.fold_answers.specs.declared.FoldNumbers.{FoldNumbers}

abbrev pub folding_refusal : Result FoldNumbers FoldRefusal → Refusal
folding_refusal (Ok n) = no_refusal
folding_refusal (Err r) = fold_refusal_in r

-- The numbers that are answered, all 0 for a refusal; and how many clock entries are set.
abbrev pub no_numbers : FoldNumbers
no_numbers = record { stem = 0; cycle = 0; phases = 0; used = 0; before = 0; after = 0 }

abbrev pub numbers_in : Result FoldNumbers FoldRefusal → FoldNumbers
numbers_in (Ok n) = n
numbers_in (Err r) = no_numbers

abbrev pub used_in : Result FoldNumbers FoldRefusal → ℕ
used_in answer = (numbers_in answer).used

-- ---- of the definition

-- The fold of the file, or none where Fold refuses: wish, and the lengths of result, work and clock list.
abbrev pub fold_answered : List ℕ → ℕ → ℕ → ℕ → ℕ → Option FoldAnswer
fold_answered file wish result work clocks = unless_refused (fold_refusal file wish result work clocks) (fold_netlist (netlist_of file) wish) none

abbrev pub numbers_of : Option FoldAnswer → FoldNumbers
numbers_of none = no_numbers
numbers_of (some a) = record { stem = a.stem; cycle = a.cycle; phases = a.phases; used = a.used; before = a.before; after = a.after }

-- The entries that are set.
abbrev pub entries_of : Option FoldAnswer → List ClockEntry
entries_of none = []
entries_of (some a) = a.clocks

-- The old result afterwards: the folded netlist's file; unchanged by a refusal.
abbrev pub result_of : Option FoldAnswer → List ℕ → List ℕ
result_of none old = old
result_of (some a) old = file_in a.rows old
