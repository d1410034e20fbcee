use borrow.Author.Rules.{rules}
use Rattle.simulate.proofs.RunLaws.{run-outputs, run_none, run-ready, run_more, run_end}
use Rattle.simulate.proofs.run_steps.Goals as goal

pub overflow_sub-outputs : goal.overflow_sub-outputs
overflow_sub-outputs c = search (run-outputs, rules)

pub loop-done-init : goal.loop-done-init
loop-done-init c = search run_none

pub run_step-requires : goal.run_step-requires
run_step-requires c = run-ready c.loop-done.invariant c.loop-done-test.true

pub loop-done-preserved : goal.loop-done-preserved
loop-done-preserved c = search run_more

pub returns : goal.returns
returns c = search run_end
