-- `run_steps` meets its contract. The loop's invariant: after `done` steps work has the run's state, the result the bytes that the outputs have shown, and `step` and `to` say where the next step's bytes stand.
-- Assumes nothing.
use Rattle.simulate.proofs.RunLaws.{Running}
use Rattle.simulate.proofs.run_steps.Given as goal

abbrev pub invariant-loop-done : goal.invariant-loop-done
invariant-loop-done l = Running l.file l.rows l.nodes l.inputs_a_step l.steps l.choices l.inputs l.initial.work l.initial.res l.step l.to l._done l.work l.res
