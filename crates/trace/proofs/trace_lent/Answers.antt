-- `trace_lent` meets its contract: the fold in the result, then the trace by it.
-- Assumes nothing.
use native.Mathlib.Omega.{arith}
use borrow.Author.Rules.{rules}
use Rattle.trace.proofs.LentLaws.{lent-refused, left-inside, pair-by, work-long, lent-traced}
use Rattle.trace.proofs.trace_lent.Goals as goal

pub slice_bounds-trace_fold-end : goal.slice_bounds-trace_fold-end
slice_bounds-trace_fold-end c = search (left-inside _ _ _ _ _ _ _ c.fold_core.ensures _ c.in-Ok.is _ c.file_bytes-size.ensures, rules)

pub trace_fold-requires : goal.trace_fold-requires
trace_fold-requires c =
    let core = c.fold_core.ensures in
    let done = c.in-Ok.is in
    (pair-by _ _ _ _ _ _ _ core _ done _ c.file_bytes-size.ensures, search (work-long _ _ _ _ _ _ _ core _ done, rules))

pub returns-in-Err : goal.returns-in-Err
returns-in-Err c = search (lent-refused _ _ _ _ _ _ _ c.fold_core.ensures _ c.in-Err.is, rules)

pub returns-in-Ok : goal.returns-in-Ok
returns-in-Ok c =
    lent-traced _ _ _ _ _ _ _ c.fold_core.ensures _ c.in-Ok.is _ c.file_bytes-size.ensures _ _ _ _ _ (λ x. omega (arith, c.type_inv.file x)) _ _ c.trace_fold.ensures
