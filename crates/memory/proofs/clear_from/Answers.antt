use borrow.Author.Rules.{rules}
use Rattle.memory.proofs.BufferLaws.{cleared_more}
use Rattle.memory.proofs.clear_from.Goals as goal

pub loop-i-preserved : goal.loop-i-preserved
loop-i-preserved c = search (cleared_more, rules)
