use borrow.Author.Rules.{rules}
use Rattle.gate_numbers.proofs.WakingLaws.{marked-lowest}
use Rattle.gate_numbers.proofs.SourceLaws.{found-more, found_all}
use Rattle.gate_numbers.proofs.find_ready.Goals as goal

pub loop-row-preserved : goal.loop-row-preserved
loop-row-preserved c = (search (found-more, rules), search (marked-lowest, rules))

pub returns : goal.returns
returns c = search (found_all, rules)
