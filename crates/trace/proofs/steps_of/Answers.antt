-- `steps_of` meets its contract.
-- Assumes nothing.
use borrow.Author.Rules.{rules}
use Rattle.trace.proofs.PlanLaws.{group-some, steps-few, steps-mul, steps-add}
use Rattle.trace.proofs.steps_of.Goals as goal

pub overflow_sub-result : goal.overflow_sub-result
overflow_sub-result c = search (group-some, rules)

pub overflow_mul-result : goal.overflow_mul-result
overflow_mul-result c = search (steps-mul, rules)

pub overflow_add-result : goal.overflow_add-result
overflow_add-result c = search (steps-add, rules)

pub overflow_add-result-2 : goal.overflow_add-result-2
overflow_add-result-2 c = search (steps-few c.args.phases c.args.groups c.args.phase c.requires.0 c.requires.1, rules)
