use Rattle.std.proofs.Common.{rules}
use Rattle.run.proofs.PlanLaws.{binary-none, binary-more, binary-all}
use Rattle.run.proofs.all_binary.Goals as goal

pub loop-value-init : goal.loop-value-init
loop-value-init c = search binary-none

pub loop-value-preserved : goal.loop-value-preserved
loop-value-preserved c = search (binary-more, rules)

pub returns : goal.returns
returns c = search binary-all
