-- `run::plan_steps` asks 17 to 20 in order, by the counts.
-- Assumes nothing.
use Rattle.std.proofs.Common.{arith}
use Rattle.blockfile.specs.CountCode.{counts_in}
use Rattle.run.proofs.PlanLaws.{stops-17, stops-18, stops-19, stops-20, goes}
use Rattle.run.proofs.plan_steps.Goals as goal

pub returns-then-steps-gt-MOST_STEPS : goal.returns-then-steps-gt-MOST_STEPS
returns-then-steps-gt-MOST_STEPS c = stops-17 c.args.rows (counts_in c.args.counts) c.args.steps c.args.choices.now c.args.inputs.now c.args.res c.args.work (omega (arith, c.if-steps-gt-MOST_STEPS.true))

pub returns-then-not-lists_right : goal.returns-then-not-lists_right
returns-then-not-lists_right c = search stops-18

pub returns-then-not-values_right : goal.returns-then-not-values_right
returns-then-not-values_right c = search stops-19

pub returns-then-not-memory_right : goal.returns-then-not-memory_right
returns-then-not-memory_right c = search stops-20

pub returns : goal.returns
returns c = search goes
