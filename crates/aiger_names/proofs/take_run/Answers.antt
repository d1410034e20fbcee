-- `take_run` meets its contract: the nodes that count up are a window without a tree.
-- Assumes nothing.
use borrow.Author.Rules.{rules}
use Rattle.std.proofs.lemmas.Result.{err_from_is_err_and}
use Rattle.aiger_names.proofs.TakeLaws.{run-stands, run-taken}
use Rattle.aiger_names.proofs.take_run.Goals as goal

pub look_up-requires : goal.look_up-requires
look_up-requires c = record { counted = search rules; window_stands = search run-stands }

pub returns-in_err-found-clause-taken_is : goal.returns-in_err-found-clause-taken_is
returns-in_err-found-clause-taken_is c =
    let p = err_from_is_err_and c.from_residual.result c.from_residual.ensures.1 in
    rw p.1 c.in_err-found.ensures.looked_is

pub returns-clause-taken_is : goal.returns-clause-taken_is
returns-clause-taken_is c = search (run-taken, c.in_ok-found.was)
