-- `repeats` meets its contract. The loop's invariant: the states before t hold as they should, and u is t mod p.
-- Assumes nothing.
use Rattle.std.proofs.Common.{◌≡◌, ◌%◌, true}
use Rattle.period_finder.specs.PeriodStage.{repeats_in}
use Rattle.period_finder.proofs.repeats.Given as goal

abbrev pub invariant-loop-t : goal.invariant-loop-t
invariant-loop-t l = (l.u ≡ l.t % l.p) × (repeats_in l.work l.t l.j l.p ≡ true)
