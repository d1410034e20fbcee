-- `put_trace` meets its contract: choices, then inputs, from the front on.
-- Assumes nothing.
use Rattle.trace_values.proofs.PutLaws.{trace-put}
use Rattle.trace_values.proofs.put_trace.Goals as goal

pub returns : goal.returns
returns c = trace-put _ _ _ _ _ c.requires.folded_pair.0 _ _ _ _ _ _ c.requires.trace_given _ _ c.put_choices.ensures c.put_inputs.ensures
