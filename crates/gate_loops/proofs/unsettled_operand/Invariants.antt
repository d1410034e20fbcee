-- `unsettled_operand` meets its contract. The loop's invariant: the operands before number `index` are settled.
-- Assumes nothing.
use Rattle.gate_rows.specs.Sources.{source_rows}
use Rattle.gate_loops.proofs.RowLaws.{PassedBelow}
use Rattle.gate_loops.proofs.unsettled_operand.Given as goal

abbrev pub invariant-loop-index : goal.invariant-loop-index
invariant-loop-index l = PassedBelow (source_rows l.layout l.source) l.slots l.row l.index
