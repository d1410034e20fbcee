-- `operands_placed` meets its contract. The loop's invariant: the operands before `index` are placed.
-- Assumes nothing.
use Rattle.gate_rows.specs.Sources.{source_rows}
use Rattle.gate_numbers.proofs.WakingLaws.{PlacedTo}
use Rattle.gate_numbers.proofs.operands_placed.Given as goal

abbrev pub invariant-loop-index : goal.invariant-loop-index
invariant-loop-index l = PlacedTo (source_rows l.layout l.source) l.slots l.row l.index
