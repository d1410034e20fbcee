-- The outcome of Fold, by what its parts said.
-- Assumes nothing.
use Prim.Native.Nat.{ℕ}
use mathlib.Core.Path.{◌≡◌, sym, ap, ◌∙◌}
use mathlib.Core.List.{List, ◌++◌}
use lib.ListN.{length, drop, replicate}
use Rattle.std.specs.Prelude.{Result}
use Rattle.memory.proofs.ListLaws.{tabulate-length}
use Rattle.lasso.specs.ClockEntries.{ClockEntry}
use Rattle.fold_memory.specs.WorkMap.{entry_in, entries_in}
use Rattle.clock_list.specs.ClockCode.{clocks_of}
use Rattle.clock_list.specs.declared.Clock.{Clock}
use Rattle.fold_refusals.specs.declared.FoldRefusal.{FoldRefusal}
use Rattle.fold_answers.specs.FoldAnswers.{used_in}
use Rattle.fold_answers.specs.FoldOutcome.{CoreFolded}
use Rattle.fold_answers.specs.declared.FoldNumbers.{FoldNumbers}
use Rattle.fold_answers.specs.FoldedOutcome.{Folded}

-- The first n packed entries, and the old list from n on.
entries-then-rest : (work : List ℕ) (n : ℕ) (clocks : List Clock) (es : List ClockEntry) → entries_in work n ≡ es → clocks_of (entries_in work n) ++ drop n clocks ≡ clocks_of es ++ drop (length es) clocks
entries-then-rest work n clocks es e =
    ap (λ (k : ℕ). clocks_of (entries_in work n) ++ drop k clocks) (sym (tabulate-length n (entry_in work))) ∙ ap (λ (l : List ClockEntry). clocks_of l ++ drop (length l) clocks) e

-- Work is packed, and cleared in the end.
pub folded-by : (file : List ℕ) (wish : ℕ) (result result' work packed work' : List ℕ) (clocks clocks' : List Clock) (answer : Result FoldNumbers FoldRefusal) (used : ℕ) → CoreFolded file wish (length clocks) result result' work packed answer → used ≡ used_in answer → length packed ≡ length work
    → clocks' ≡ clocks_of (entries_in packed used) ++ drop used clocks → work' ≡ replicate (length packed) 0 → Folded file wish result result' work work' clocks clocks' answer
folded-by file wish result result' work packed work' clocks clocks' answer used core e same listed cleared = record {
  done = core.done;
  cleared = cleared ∙ ap (λ (k : ℕ). replicate k 0) same;
  listed = listed ∙ ap (λ (k : ℕ). clocks_of (entries_in packed k) ++ drop k clocks) e ∙ entries-then-rest packed (used_in answer) clocks _ core.entries;
}
