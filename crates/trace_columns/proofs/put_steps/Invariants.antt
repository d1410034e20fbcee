-- `put_steps`: the first `step` steps are written, and no other byte is changed; `target` is where the next one goes.
-- Assumes nothing.
use Rattle.trace_columns.proofs.ValueLaws.{Putting}
use Rattle.trace_columns.proofs.put_steps.Given as goal

abbrev pub invariant-loop-step : goal.invariant-loop-step
invariant-loop-step l = Putting l.columns l.count l.phases l.kept l.values l.initial.trace l.to l.step l.target l.trace
