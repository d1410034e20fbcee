-- `fold_core` meets its contract: the questions before the lasso, then the stages.
-- Assumes nothing.
use native.Mathlib.Omega.{arith}
use borrow.Author.Rules.{rules}
use Rattle.accept.proofs.RefusalLaws.{handed-on}
use Rattle.fold_core.proofs.OutcomeLaws.{core-stopped, fold-ready, core-passed}
use Rattle.fold_core.proofs.fold_core.Goals as goal

pub returns-in_err-rows : goal.returns-in_err-rows
returns-in_err-rows c = rw (handed-on c.from_residual.result c.from_residual.ensures.1) (search (core-stopped, c.in_err-rows.was))

pub fold_passed-requires : goal.fold_passed-requires
fold_passed-requires c = search (fold-ready, c.in_ok-rows.was)

pub returns : goal.returns
returns c = core-passed c.args.res.now c.args.work.now c.clear.new.s (search rules) c.ask.ensures (λ x. omega (arith, c.type_inv.file x)) c.in_ok-rows.was c.fold_passed.ensures
