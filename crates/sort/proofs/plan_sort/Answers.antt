-- `plan_sort` meets its contract: the file is asked first, then what is lent.
-- Assumes nothing.
use borrow.Author.Rules.{rules}
use Rattle.accept.proofs.RefusalLaws.{handed-on}
use Rattle.sort.proofs.OutcomeLaws.{plan-file, plan-go}
use Rattle.sort.proofs.plan_sort.Goals as goal

pub returns-in_err-rows : goal.returns-in_err-rows
returns-in_err-rows c = rw (handed-on c.from_residual.result c.from_residual.ensures.1) (search (plan-file, c.in_err-rows.was))

pub returns-then-least-work : goal.returns-then-least-work
returns-then-least-work c = search (plan-go, c.in_ok-rows.was)
