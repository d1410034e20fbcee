use borrow.Author.Rules.{rules}
use Rattle.aiger_names.proofs.LineRowLaws.{line-some}
use Rattle.aiger_names.proofs.TakeLaws.{counting-start, counting_more, counting-same}
use Rattle.aiger_names.proofs.measure_run.Goals as goal
use Rattle.aiger_names.proofs.measure_run.Goals.{then-defines+else-l-node, else-defines}

pub loop-line-init : goal.loop-line-init
loop-line-init c = search (counting-start, rules)

pub loop-line-preserved : goal.loop-line-preserved
loop-line-preserved c = elim c.if-defines.branch [ then-defines+else-l-node w ↦ search (counting_more, rules) | else-defines w ↦ search (counting-same, rules) ]

pub unwrap-l-requires : goal.unwrap-l-requires
unwrap-l-requires c = search line-some
