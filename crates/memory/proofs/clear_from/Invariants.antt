-- `clear_from` meets its contract. The loop's invariant: the bytes from `at` on and before `i` are 0, the others as they were.
-- Assumes nothing.
use mathlib.Core.Path.{◌≡◌}
use Rattle.memory.proofs.BufferLaws.{cleared_to}
use Rattle.memory.proofs.clear_from.Given as goal

abbrev pub invariant-loop-i : goal.invariant-loop-i
invariant-loop-i l = l.s ≡ cleared_to l.initial.s l.at l.i
