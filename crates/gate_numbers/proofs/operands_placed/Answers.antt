use borrow.Author.Rules.{rules}
use Rattle.gate_numbers.proofs.WakingLaws.{all_placed}
use Rattle.gate_numbers.proofs.operands_placed.Goals as goal

pub returns : goal.returns
returns c = search (all_placed, rules)
