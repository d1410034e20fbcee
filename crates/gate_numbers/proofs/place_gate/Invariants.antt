-- `place_gate` meets its contract. The loop's invariant: of the users above `user` those that name placed nodes alone are ready.
-- Assumes nothing.
use Prim.Native.Nat.{◌≤◌}
use mathlib.Core.Path.{◌≡◌}
use lib.ListN.{length}
use Rattle.gate_rows.specs.Sources.{source_rows}
use Rattle.ready_gates.specs.ReadySlots.{ReadyMarked}
use Rattle.gate_numbers.specs.Numbers.{users_of, Woken}
use Rattle.gate_numbers.proofs.WakingLaws.{Asleep, users_above, NextUser}
use Rattle.gate_numbers.proofs.place_gate.Given as goal

abbrev pub invariant-users : goal.invariant-users
invariant-users l =
    ((length l.work ≡ length l.initial.work) × Asleep (source_rows l.layout l.source) (users_of (source_rows l.layout l.source) l.gate) l.initial.work)
    × (Woken (source_rows l.layout l.source) (users_above (source_rows l.layout l.source) l.gate l.user) l.initial.work l.work × (NextUser (source_rows l.layout l.source) l.gate l.user × (ReadyMarked l.rows l.work l.low × (l.low ≤ l.gate))))

abbrev pub decreases-users : goal.decreases-users
decreases-users l = l.user
