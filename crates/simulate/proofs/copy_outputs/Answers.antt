use borrow.Author.Rules.{rules}
use Rattle.simulate.proofs.WriteLaws.{copy_more}
use Rattle.simulate.proofs.copy_outputs.Goals as goal

pub loop-copied-preserved : goal.loop-copied-preserved
loop-copied-preserved c = search (copy_more, rules)
