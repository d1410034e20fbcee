-- The entire outcome of Fold, for all arguments: the scope paper, "Operations and lent memory".
-- Interface: list_after, Folded.
-- Assumes nothing.
use Rattle.std.specs.Prelude.{ℕ, ◌≡◌, List, ◌++◌, length, drop, replicate, Result}
use Rattle.std.proofs.Math.Option.{Option}
use Rattle.abstraction.specs.Fold.{FoldAnswer}
use Rattle.clock_list.specs.ClockCode.{clocks_of}
use Rattle.clock_list.specs.declared.Clock.{Clock}
use Rattle.fold_answers.specs.FoldAnswers.{fold_answered, entries_of}
use Rattle.fold_answers.specs.FoldOutcome.{FoldDone}
use Rattle.fold_answers.specs.declared.FoldNumbers.{FoldNumbers}
use Rattle.fold_refusals.specs.declared.FoldRefusal.{FoldRefusal}

-- The clock list afterwards: the entries of the fold, and the unchanged rest.
abbrev pub list_after : Option FoldAnswer → List Clock → List Clock
list_after a old = clocks_of (entries_of a) ++ drop (length (entries_of a)) old

-- Of the file given, the wish, the three lent memories before and after, and the answer.
pub record Folded (file : List ℕ) (wish : ℕ) (result result' work work' : List ℕ) (clocks clocks' : List Clock) (answer : Result FoldNumbers FoldRefusal) : Type 0 where
  pub done : FoldDone file wish (length work) (length clocks) result result' answer
  pub cleared : work' ≡ replicate (length work) 0
  pub listed : clocks' ≡ list_after (fold_answered file wish (length result) (length work) (length clocks)) clocks
