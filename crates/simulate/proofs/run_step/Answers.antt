-- `run_step` meets its contract: the two passes are a step of the run.
-- Assumes nothing.
use Rattle.simulate.proofs.RunLaws.{step-outputs, step-shown, step-copies, step_of}
use borrow.Author.Rules.{rules}
use Rattle.simulate.proofs.run_step.Goals as goal

pub overflow_sub-outputs : goal.overflow_sub-outputs
overflow_sub-outputs c = search (step-outputs, rules)

pub overflow_add-shown : goal.overflow_add-shown
overflow_add-shown c = search (step-shown, rules)

pub copy_outputs-requires : goal.copy_outputs-requires
copy_outputs-requires c = search (step-copies, rules)

pub returns : goal.returns
returns c = search step_of
