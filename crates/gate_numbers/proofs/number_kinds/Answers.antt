use borrow.Author.Rules.{rules}
use Rattle.gate_numbers.proofs.NumberLaws.{numbering-fits, numbering-more}
use Rattle.gate_numbers.proofs.number_kinds.Goals as goal

pub number_row-next-requires-clause-number_bound : goal.number_row-next-requires-clause-number_bound
number_row-next-requires-clause-number_bound c = search (numbering-fits, rules)

pub loop-row-preserved : goal.loop-row-preserved
loop-row-preserved c = search (numbering-more, rules)
