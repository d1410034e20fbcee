-- `count_used` meets its contract. The loop's invariant: `used` counts the first i rows, so it is i at most.
-- Assumes nothing.
use Rattle.std.proofs.Common.{◌≡◌, ◌≤◌}
use Rattle.lasso.specs.Generators.{used_count}
use Rattle.period_finder.specs.PeriodStage.{period_bytes}
use Rattle.period_finder.proofs.count_used.Given as goal

abbrev pub invariant-loop-i : goal.invariant-loop-i
invariant-loop-i l = (l.used ≤ l.i) × (l.used ≡ used_count (period_bytes l.work l.i) l.n)
