-- `run::plan_run` asks Check's questions, then 17 to 20.
-- Assumes nothing.
use Rattle.accept.proofs.RefusalLaws.{handed-on, accepted-few}
use Rattle.run.proofs.PlanLaws.{planned-by, planned-refused}
use Rattle.run.proofs.plan_run.Goals as goal

pub returns-in_err-rows : goal.returns-in_err-rows
returns-in_err-rows c = rw (handed-on c.from_residual.result c.from_residual.ensures.1) (search (planned-refused, c.in_err-rows.was))

pub plan_steps-requires : goal.plan_steps-requires
plan_steps-requires c = search (accepted-few, c.in_ok-rows.was)

pub returns : goal.returns
returns c = search (planned-by, c.in_ok-rows.was)
