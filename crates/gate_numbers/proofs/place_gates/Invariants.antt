-- `place_gates` meets its contract. The loop's invariant: as many rounds as gates are placed, and the slots are those of the order so far.
-- Assumes nothing.
use Rattle.gate_rows.specs.Sources.{source_rows}
use Rattle.gate_numbers.proofs.RoundLaws.{Rounds}
use Rattle.gate_numbers.proofs.place_gates.Given as goal

abbrev pub invariant-loop-next : goal.invariant-loop-next
invariant-loop-next l = Rounds (source_rows l.layout l.source) l.rows l.number l.next l.low l.work
