-- `loop_way::close` answers a way of all slots if one of them has the row.
-- Assumes nothing.
use Rattle.loop_way.proofs.WayLaws.{closed_at}
use Rattle.loop_way.proofs.close.Goals as goal

pub returns-in-Some : goal.returns-in-Some
returns-in-Some c = closed_at _ _ _ _ c.in-Some.ensures.0 c.in-Some.ensures.1
