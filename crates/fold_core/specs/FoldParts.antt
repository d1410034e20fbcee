-- What the fold of a file that passed questions 1 to 15 is given, and what it makes.
-- Assumes nothing.
use Rattle.std.specs.Prelude.{ℕ, ◌≤◌, ◌≡◌, List, length, Result, Ok, Err}
use Rattle.std.proofs.Math.Option.{Option, none, some}
use Rattle.netlist.specs.Limits.{fold_clock_entries}
use Rattle.netlist.specs.FileFormat.{netlist_of}
use Rattle.abstraction.specs.Fold.{FoldAnswer, fold_netlist}
use Rattle.questions.specs.Questions.{no_refusal}
use Rattle.fold_memory.specs.WorkMap.{entries_in}
use Rattle.ternary_step.specs.StateMap.{ClearedWork}
use Rattle.fold_refusals.specs.FoldRefusals.{early_refusal}
use Rattle.fold_answers.specs.FoldAnswers.{used_in, numbers_of, entries_of, result_of}
use Rattle.fold_refusals.specs.declared.FoldRefusal.{FoldRefusal}
use Rattle.fold_refusals.specs.declared.FoldRefusal.TheVariants.{NoLasso}
use Rattle.fold_answers.specs.declared.FoldNumbers.{FoldNumbers}

-- Questions 1 to 15 are passed, by a file of n rows and some clock list, and the work is cleared.
pub record FoldReady (file : List ℕ) (n wish : ℕ) (result work : List ℕ) : Type 0 where
  pub clocks : ℕ
  pub passed : early_refusal file wish (length result) (length work) clocks ≡ no_refusal
  pub rows : n ≡ length (netlist_of file)
  pub work-ready : ClearedWork work

-- The answer: refusal 16, or the numbers of the fold.
abbrev pub folding_of : Option FoldAnswer → Result FoldNumbers FoldRefusal
folding_of none = Err NoLasso
folding_of (some a) = Ok (numbers_of (some a))

pub record FoldMade (file : List ℕ) (wish : ℕ) (result result' work' : List ℕ) (answer : Result FoldNumbers FoldRefusal) : Type 0 where
  pub answer-is : answer ≡ folding_of (fold_netlist (netlist_of file) wish)
  pub written : result' ≡ result_of (fold_netlist (netlist_of file) wish) result
  pub entries : entries_in work' (used_in answer) ≡ entries_of (fold_netlist (netlist_of file) wish)
  pub few : used_in answer ≤ fold_clock_entries
