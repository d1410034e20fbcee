-- The steps of the loop: the outputs of one row more are appended.
-- Assumes nothing.
use borrow.Author.Rules.{rules}
use Rattle.unrolling.specs.UnrollMap.{outputs_in}
use Rattle.blockfile.proofs.AppendLaws.{join_more, join-all}
use Rattle.unrolling.proofs.OutputLaws.{row-outputs-fit}
use Rattle.unrolling.proofs.outputs.output_phase.Goals as goal

pub output_row-m-requires-clause-i_bound : goal.output_row-m-requires-clause-i_bound
output_row-m-requires-clause-i_bound c = search row-outputs-fit

pub loop-i-preserved : goal.loop-i-preserved
loop-i-preserved c = search join_more

pub returns : goal.returns
unfolding outputs_in
returns c = search (join-all, rules)
