-- `best_phases` meets its contract. The loop's invariant: `best` is the best of 1 to n - 1, and `most` its count.
-- Assumes nothing.
use Rattle.std.proofs.Common.{◌≡◌, ◌-◌}
use Rattle.lasso.specs.Generators.{used_count, best_phase_count}
use Rattle.period_finder.specs.PeriodStage.{period_bytes}
use Rattle.period_finder.proofs.best_phases.Given as goal

abbrev pub invariant-loop-n : goal.invariant-loop-n
invariant-loop-n l = (l.best ≡ best_phase_count (period_bytes l.work l.rows) (l.n - 1)) × (l.most ≡ used_count (period_bytes l.work l.rows) l.best)
