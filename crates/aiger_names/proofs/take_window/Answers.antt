-- `take_window` meets its contract: the tree that is filled is the window, and filling it keeps the pairs.
-- Assumes nothing.
use borrow.Author.Rules.{rules}
use Rattle.std.proofs.lemmas.Result.{err_from_is_err_and}
use Rattle.aiger_names.proofs.TakeLaws.{tree-stands, room-same, tree-taken}
use Rattle.aiger_names.proofs.take_window.Goals as goal

pub look_up-requires : goal.look_up-requires
look_up-requires c = record { counted = (search rules, search room-same); window_stands = search (tree-stands, c.in_ok-next.was) }

pub returns-in_err-next-clause-taken_is : goal.returns-in_err-next-clause-taken_is
returns-in_err-next-clause-taken_is c =
    let p = err_from_is_err_and c.from_residual.result c.from_residual.ensures.1 in
    rw p.1 c.in_err-next.ensures.filled_is

pub returns-in_err-found-clause-taken_is : goal.returns-in_err-found-clause-taken_is
returns-in_err-found-clause-taken_is c =
    let p = err_from_is_err_and c.from_residual-in_err-found.result c.from_residual-in_err-found.ensures.1 in
    rw p.1 c.in_err-found.ensures.looked_is

pub returns-clause-taken_is : goal.returns-clause-taken_is
returns-clause-taken_is c = search (tree-taken, c.in_ok-next.was, c.in_ok-found.was)
