use Rattle.std.proofs.Common.{rules}
use Rattle.blocks.proofs.WriterLaws.{sum-none, sum_more, sum-all}
use Rattle.blocks.proofs.writer.word_sum.Goals as goal

pub loop-i-init : goal.loop-i-init
loop-i-init c = search (sum-none, rules)

pub loop-i-preserved : goal.loop-i-preserved
loop-i-preserved c = search (sum_more, rules)

pub returns : goal.returns
returns c = search sum-all
