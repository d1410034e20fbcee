-- `find_loop` meets its contract. The loop's invariant: no slot is open, and the rows before `row` are settled.
-- Assumes nothing.
use Rattle.gate_loops.proofs.SearchLaws.{Searching}
use Rattle.gate_loops.proofs.find_loop.Given as goal

abbrev pub invariant-loop-row : goal.invariant-loop-row
invariant-loop-row l = Searching l.layout l.source l.initial.slots l.slots l.rows l.row
