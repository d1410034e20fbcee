-- `put_inputs` meets its contract: columns, then the steps' values.
-- Assumes nothing.
use Rattle.trace_values.proofs.PutLaws.{steps-ready, inputs-put}
use Rattle.trace_values.proofs.put_inputs.Goals as goal

pub put_steps-requires : goal.put_steps-requires
put_steps-requires c = search steps-ready

pub returns : goal.returns
returns c = search inputs-put
