-- The steps of the loop: the outputs of one phase more are appended.
-- Assumes nothing.
use Rattle.blockfile.proofs.AppendLaws.{join_more}
use Rattle.unrolling.proofs.OutputLaws.{phase-outputs-fit}
use Rattle.unrolling.proofs.outputs.output_phases.Goals as goal

pub output_phase-m-requires-clause-k_bound : goal.output_phase-m-requires-clause-k_bound
output_phase-m-requires-clause-k_bound c = search phase-outputs-fit

pub loop-k-preserved : goal.loop-k-preserved
loop-k-preserved c = search join_more
