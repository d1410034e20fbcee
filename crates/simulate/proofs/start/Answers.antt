use borrow.Author.Rules.{rules}
use Rattle.simulate.proofs.PassLaws.{row-ready, choice-there, choice-next, choice-small, start-more}
use Rattle.simulate.proofs.start.Goals as goal

pub start_value-requires : goal.start_value-requires
start_value-requires c = search (row-ready, choice-there, rules)

pub overflow_add-choice : goal.overflow_add-choice
overflow_add-choice c = search (choice-small, rules)

pub loop-row-preserved : goal.loop-row-preserved
loop-row-preserved c = search (choice-next, start-more, rules)
