-- `put_code` meets its contract: the code fits behind the bits that stand there.
-- Assumes nothing.
use Rattle.ternary_step.proofs.StepLaws.{put-fits, code_put}
use Rattle.ternary_step.proofs.put_code.Goals as goal

pub overflow_add-work : goal.overflow_add-work
overflow_add-work c = search put-fits

pub returns : goal.returns
returns c = search code_put
