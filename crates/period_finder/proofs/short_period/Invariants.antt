-- `short_period` meets its contract. The loop's invariant: no length below p is a generator's.
-- Assumes nothing.
use Rattle.period_finder.proofs.PeriodLaws.{NoLength}
use Rattle.period_finder.proofs.short_period.Given as goal

abbrev pub invariant-loop-p : goal.invariant-loop-p
invariant-loop-p l = NoLength l.work l.m l.cycle l.j l.p
