-- `phase_count` meets its contract.
-- Assumes nothing.
use Rattle.period_finder.proofs.CountLaws.{wish-none, wish-some}
use Rattle.period_finder.proofs.phase_count.Goals as goal

pub returns-then-wish-eq0 : goal.returns-then-wish-eq0
returns-then-wish-eq0 c = search wish-none

pub returns : goal.returns
returns c = search wish-some
