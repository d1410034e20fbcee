-- `run::memory_right` answers question 20, by the counts.
-- Assumes nothing.
use Rattle.std.proofs.Common.{refl}
use borrow.Author.Tests.{le-leb}
use Rattle.run.proofs.PlanLaws.{memory-by}
use Rattle.run.proofs.memory_right.Goals as goal

pub returns-then-fits : goal.returns-then-fits
returns-then-fits c = λ rows e. memory-by rows _ e c.args.steps _ c.args.res c.args.work _ c.row_work-least.ensures (rw (le-leb _ _ c.if-fits.true) refl)
