-- `output_row` appends one row, or none.
-- Assumes nothing.
use Rattle.unrolling.proofs.OutputLaws.{output-no, output-yes}
use Rattle.unrolling.proofs.outputs.output_row.Goals as goal

pub returns-then-kind-ne6 : goal.returns-then-kind-ne6
returns-then-kind-ne6 c = search output-no

pub returns : goal.returns
returns c = search output-yes
