-- `xor_value` meets its contract.
-- Assumes nothing.
use Rattle.ternary_step.proofs.StateLaws.{xor-of}
use Rattle.ternary_step.proofs.xor_value.Goals as goal

pub returns : goal.returns
returns c = search xor-of
