-- `loop_way::follow` goes from each gate to one that it names.
-- Assumes nothing.
use Prim.Native.Nat.{◌*◌, ◌≤◌}
use lib.ListN.{length}
use Rattle.gate_rows.specs.Sources.{source_rows}
use Rattle.loop_way.proofs.WayLaws.{Walking}
use Rattle.loop_way.proofs.follow.Given as goal

abbrev pub invariant-loop-index : goal.invariant-loop-index
invariant-loop-index l = (2 * l.rows ≤ length l.list) × Walking (source_rows l.layout l.source) l.list l.index l.row
