-- `lowest_from` meets its contract. The loop's invariant: the slots stay, ready rows stand in marked groups, and none stands in a group before `group`.
-- Assumes nothing.
use Prim.Native.Nat.{◌*◌}
use Rattle.ready_gates.specs.ReadySlots.{ReadyMarked, SlotsKept}
use Rattle.ready_gates.proofs.lowest_from.Given as goal

abbrev pub invariant-loop-group : goal.invariant-loop-group
invariant-loop-group l = SlotsKept l.rows l.initial.work l.work × ReadyMarked l.rows l.work (64 * l.group)
