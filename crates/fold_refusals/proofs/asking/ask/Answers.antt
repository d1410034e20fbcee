-- `ask` meets its contract: Check's questions, then the others of the accepted file.
-- Assumes nothing.
use Rattle.accept.proofs.RefusalLaws.{handed-on, accepted-rows, accepted-counts}
use Rattle.fold_refusals.proofs.EarlyLaws.{file-no, original-asked}
use Rattle.fold_refusals.proofs.asking.ask.Goals as goal

pub returns-in_err-rows : goal.returns-in_err-rows
returns-in_err-rows c = rw (handed-on c.from_residual.result c.from_residual.ensures.1) (search (file-no, c.in_err-rows.was))

pub ask_original-requires : goal.ask_original-requires
ask_original-requires c = search (accepted-rows, accepted-counts, c.in_ok-rows.was)

pub returns : goal.returns
returns c = search (original-asked, c.in_ok-rows.was)
