-- `literal_value` meets its contract: the row's value, or its complement by the literal's last bit.
-- Assumes nothing.
use Rattle.ternary_step.proofs.StateLaws.{literal-by}
use Rattle.ternary_step.proofs.literal_value.Goals as goal

pub returns : goal.returns
returns c = search literal-by
