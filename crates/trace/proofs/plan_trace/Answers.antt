-- `plan_trace` meets its contract: 26 to 28 in order, by the counts of both files.
-- Assumes nothing.
use borrow.Author.Rules.{rules}
use Rattle.trace.proofs.PlanLaws.{values-fit, steps-asked, inputs-fit, size_fits, stops-26, stops-27, stops-28, goes}
use Rattle.trace.proofs.plan_trace.Goals as goal

pub returns-then-not-groups_right : goal.returns-then-not-groups_right
returns-then-not-groups_right c = search stops-26

pub overflow_mul-values : goal.overflow_mul-values
overflow_mul-values c = search (values-fit _ _ _ _ _ c.requires c.args.groups c.args.phase _ c.groups_right.ensures c.if-not-groups_right.false _ c.count_rows-kept.ensures.1, rules)

pub returns-then-not-values_right : goal.returns-then-not-values_right
returns-then-not-values_right c = search (stops-27, rules)

pub steps_of-steps-requires : goal.steps_of-steps-requires
steps_of-steps-requires c = steps-asked _ _ _ _ _ c.requires c.args.groups c.args.phase _ c.groups_right.ensures c.if-not-groups_right.false

pub overflow_mul-size : goal.overflow_mul-size
overflow_mul-size c = search (inputs-fit _ _ _ _ _ c.requires c.args.groups c.args.phase _ c.groups_right.ensures c.if-not-groups_right.false _ _ c.steps_of-steps.ensures c.count_rows-each.ensures.1, rules)

pub overflow_add-size : goal.overflow_add-size
overflow_add-size c = search (size_fits _ _ _ _ _ c.requires c.args.groups c.args.phase _ c.groups_right.ensures c.if-not-groups_right.false _ _ c.steps_of-steps.ensures c.count_rows-each.ensures.1 _ c.count_rows-unknown.ensures.1, rules)

pub returns-then-room-size : goal.returns-then-room-size
returns-then-room-size c = search (stops-28, rules)

pub returns : goal.returns
returns c = search (goes, rules)
