-- What holds of Fold's answer for an original that is accepted: its numbers and its clock list in the paper's words, its rows' shape and number, and demand 3.
-- Assumes nothing.
use Prim.Native.Nat.{ℕ, zero, suc, ◌<◌, ◌≤◌}
use mathlib.Core.Path.{◌≡◌, refl, sym}
use mathlib.Core.Bool.{true}
use mathlib.Core.List.{List}
use mathlib.Core.Option.{some}
use native.Mathlib.Omega.{arith}
use lib.ListN.{length}
use Rattle.memory.specs.Lists.{count_if}
use Rattle.ternary.specs.Ternary.{Ternary}
use Rattle.netlist.specs.Limits.{most_phases, most_folded_rows}
use Rattle.netlist.specs.Rows.{Row, row_at, label_of, has_name, is_register}
use Rattle.netlist.specs.WellFormed.{FoldableRows, FileShape}
use Rattle.lasso.specs.LassoSearch.{Lasso, find_lasso}
use Rattle.lasso.specs.Generators.{periods_of, phase_count, clock_value}
use Rattle.lasso.proofs.LassoLaws.{lasso-is}
use Rattle.lasso.proofs.GeneratorLaws.{periods-length}
use Rattle.lasso.proofs.PhaseCountLaws.{phases-best, phases-wish, phases-pos, phases-le}
use Rattle.lasso.proofs.ClockLaws.{entries-words, entries-count, used_le}
use Rattle.abstraction.specs.Compaction.{compact}
use Rattle.abstraction.specs.Fold.{fold_with, FoldAnswer, fold_from_lasso, fold_netlist, AnswerWords}
use Rattle.abstraction.specs.SameBehaviour.{SameBehaviour, StandsFor}
use Rattle.abstraction.proofs.ResultShape.{result-shape}
use Rattle.abstraction.proofs.FoldedRun.{origin}
use Rattle.abstraction.proofs.SizeBound.{fold-fits}
use Rattle.abstraction.proofs.DemandThree.{fold-stands, fold-behaves}

fold-shape : (clock : ℕ → ℕ → Ternary) (rows : List Row) → FoldableRows rows → (N : ℕ) → 0 < N → FileShape N (fold_with clock rows N)
unfolding fold_with compact
fold-shape clock rows ok zero h = absurd (omega arith)
fold-shape clock rows ok (suc M) h = result-shape rows ok clock M

fold-origins : (clock : ℕ → ℕ → Ternary) (rows : List Row) (N : ℕ) → 0 < N → (y : ℕ) → y < length (fold_with clock rows N) → has_name (row_at (fold_with clock rows N) y) ≡ true → (x : ℕ) × (x < length rows) × (label_of (row_at (fold_with clock rows N) y) ≡ label_of (row_at rows x))
unfolding fold_with compact
fold-origins clock rows zero h y b t = absurd (omega arith)
fold-origins clock rows (suc M) h y b t = let o = origin clock rows M y b t in (o.row, o.within, o.label)

pub record AnswerRight (rows : List Row) (wish : ℕ) (answer : FoldAnswer) : Type 0 where
  pub words : AnswerWords rows wish answer
  pub phases-pos : 1 ≤ answer.phases
  pub phases-le : answer.phases ≤ most_phases
  pub rows-le : length answer.rows ≤ most_folded_rows
  pub clocks-le : length answer.clocks ≤ count_if is_register rows
  pub shape : FileShape answer.phases answer.rows
  pub origins : (y : ℕ) → y < length answer.rows → has_name (row_at answer.rows y) ≡ true → (x : ℕ) × (x < length rows) × (label_of (row_at answer.rows y) ≡ label_of (row_at rows x))
  pub stands : StandsFor rows answer.phases answer.rows
  pub behaves : SameBehaviour rows answer.phases answer.rows

module _ (rows : List Row) (wish : ℕ) (z : Lasso) (found : find_lasso rows ≡ some z) where
  -- Where there is a lasso there is an answer.
  pub fold-answers : fold_netlist rows wish ≡ some (fold_from_lasso rows wish z)
  unfolding fold_netlist
  fold-answers = rw (found, fold_netlist)

  answer-words : AnswerWords rows wish (fold_from_lasso rows wish z)
  unfolding fold_from_lasso
  answer-words = record {
    lasso = (lasso-is rows z found).repeat;
    wished = λ h. phases-wish wish (periods_of rows z) h;
    best = λ e. rw e (phases-best (periods_of rows z));
    used = sym (entries-count rows (periods_of rows z) (phase_count wish (periods_of rows z)) (periods-length rows z));
    before = refl;
    after = refl;
    clocks = entries-words rows z (lasso-is rows z found) (phase_count wish (periods_of rows z));
  }

  module _ (ok : FoldableRows rows) (small : wish ≤ most_phases) where
    pub answer-right : AnswerRight rows wish (fold_from_lasso rows wish z)
    unfolding fold_from_lasso
    answer-right =
        let ps = periods_of rows z in
        let N = phase_count wish ps in
        let clock = clock_value rows ps N in
        let pos = phases-pos wish ps in
        let le = phases-le wish ps small in
        record {
          words = answer-words;
          phases-pos = pos;
          phases-le = le;
          rows-le = fold-fits clock rows N ok.checked.constant-first (omega (arith, ok.checked.has-output.4)) ok.small le;
          clocks-le = omega (arith, entries-count rows ps N (periods-length rows z), used_le rows z N);
          shape = fold-shape clock rows ok N pos;
          origins = fold-origins clock rows N pos;
          stands = fold-stands clock rows ok N pos;
          behaves = fold-behaves rows ok z found N pos;
        }
