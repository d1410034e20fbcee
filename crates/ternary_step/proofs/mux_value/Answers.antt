-- `mux_value` meets its contract.
-- Assumes nothing.
use Rattle.ternary_step.proofs.StateLaws.{mux-of}
use Rattle.ternary_step.proofs.mux_value.Goals as goal

pub returns : goal.returns
returns c = search mux-of
