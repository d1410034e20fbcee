-- `run::run` leaves what Run's definition says, by its plan.
-- Assumes nothing.
use Rattle.run.proofs.RanLaws.{given_by, room_by, done-by}
use Rattle.run.proofs.run.Goals as goal

pub run_cleared-requires : goal.run_cleared-requires
run_cleared-requires c = search (given_by, room_by, c.in_ok-plan.was)

pub returns : goal.returns
returns c = search (done-by, c.in_ok-plan.was)
