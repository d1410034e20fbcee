-- `and_value` meets its contract.
-- Assumes nothing.
use Rattle.ternary_step.proofs.StateLaws.{and-of}
use Rattle.ternary_step.proofs.and_value.Goals as goal

pub returns : goal.returns
returns c = search and-of
