-- The fold as a whole, and what Fold answers: the scope paper, "The fold" and "Operations and lent memory".
-- Interface: fold_netlist, FoldAnswer; AnswerWords says what its numbers and its clock list are in the paper's words.
-- Assumes nothing.
use Rattle.std.specs.Prelude.{ℕ, ◌+◌, ◌<◌, ◌≡◌, List, length}
use Rattle.std.proofs.Math.Option.{Option, none, some}
use Rattle.ternary.specs.Ternary.{Ternary}
use Rattle.netlist.specs.Rows.{Row}
use Rattle.lasso.specs.LassoSearch.{Lasso, find_lasso, FirstRepeat}
use Rattle.lasso.specs.Generators.{periods_of, used_count, phase_count, clock_value, IsBestCount}
use Rattle.lasso.specs.ClockEntries.{ClockEntry, clock_entries, ClockListWords}
use Rattle.abstraction.specs.Unrolling.{unrolled_netlist}
use Rattle.abstraction.specs.Compaction.{compact}

-- The fold by what is known of each row in each phase.
unfoldable pub fold_with : (ℕ → ℕ → Ternary) → List Row → ℕ → List Row
fold_with clock rows N = compact (unrolled_netlist clock rows N)

-- Stem, cycle, N, used generators and row counts before and after; the clock list's entries; the folded netlist.
pub record FoldAnswer : Type 0 where
  pub stem : ℕ
  pub cycle : ℕ
  pub phases : ℕ
  pub used : ℕ
  pub before : ℕ
  pub after : ℕ
  pub clocks : List ClockEntry
  pub rows : List Row

unfoldable pub fold_from_lasso : List Row → ℕ → Lasso → FoldAnswer
fold_from_lasso rows wish z =
    let ps = periods_of rows z in
    let N = phase_count wish ps in
    let new = fold_with (clock_value rows ps N) rows N in
    record {
      stem = z.stem;
      cycle = z.cycle;
      phases = N;
      used = used_count ps N;
      before = length rows;
      after = length new;
      clocks = clock_entries rows ps N;
      rows = new;
    }

-- Fold, once questions 1 to 15 are passed; none is refusal 16.
unfoldable pub fold_netlist : List Row → ℕ → Option FoldAnswer
fold_netlist rows wish = elim (find_lasso rows) [ none ↦ none | some z ↦ some (fold_from_lasso rows wish z) ]

-- ---- in the paper's words

-- What an answer's numbers and clock list are: stem and cycle are those of the first repeat; N is the wish, or with wish 0 the smallest number with the highest count; the used generators are those listed; the row counts are those of the two netlists; the clock list has one entry per used generator, in row order.
pub record AnswerWords (rows : List Row) (wish : ℕ) (answer : FoldAnswer) : Type 0 where
  pub lasso : FirstRepeat rows answer.stem (answer.stem + answer.cycle)
  pub wished : 0 < wish → answer.phases ≡ wish
  pub best : wish ≡ 0 → IsBestCount (periods_of rows (record { stem = answer.stem; cycle = answer.cycle })) answer.phases
  pub used : answer.used ≡ length answer.clocks
  pub before : answer.before ≡ length rows
  pub after : answer.after ≡ length answer.rows
  pub clocks : ClockListWords rows (record { stem = answer.stem; cycle = answer.cycle }) answer.phases answer.clocks
