-- `trace_fold` meets its contract, by its plan.
-- Assumes nothing.
use Rattle.std.proofs.lemmas.Result.{err_from_is_err_and}
use Rattle.trace.proofs.MadeLaws.{made-stopped, given_by, made-done}
use Rattle.trace.proofs.trace_fold.Goals as goal

pub returns-in_err-plan : goal.returns-in_err-plan
returns-in_err-plan c =
    let p = err_from_is_err_and c.from_residual.result c.from_residual.ensures.1 in
    rw (p.1, p.2) (made-stopped _ _ _ _ _ c.requires.0 _ _ _ _ _ _ c.plan_trace.ensures _ c.in_err-plan.was)

pub put_trace-requires-clause-trace_given : goal.put_trace-requires-clause-trace_given
put_trace-requires-clause-trace_given c = given_by _ _ _ _ _ c.requires.0 _ _ _ _ _ _ c.plan_trace.ensures _ c.in_ok-plan.was

pub returns : goal.returns
returns c = made-done _ _ _ _ _ c.requires.0 _ _ _ _ _ _ c.plan_trace.ensures _ c.in_ok-plan.was _ c.put_trace.ensures
