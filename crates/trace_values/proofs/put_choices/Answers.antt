-- `put_choices` meets its contract: columns, then values.
-- Assumes nothing.
use Rattle.trace_values.proofs.PutLaws.{values-ready, choices-put}
use Rattle.trace_values.proofs.put_choices.Goals as goal

pub put_values-requires : goal.put_values-requires
put_values-requires c = search values-ready

pub returns : goal.returns
returns c = search choices-put
