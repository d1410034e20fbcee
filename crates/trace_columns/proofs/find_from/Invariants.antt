-- `find_from`: no slot from `from` to `index` - 1 has the label.
-- Assumes nothing.
use Rattle.std.proofs.Common.{◌≡◌, ℕ, ◌<◌, ◌≤◌}
use Rattle.memory.specs.Slots.{slot_at}
use Rattle.trace_columns.proofs.find_from.Given as goal

abbrev pub invariant-loop-index : goal.invariant-loop-index
invariant-loop-index l = (j : ℕ) → l.from ≤ j → j < l.index → ¬ (slot_at l.labels j ≡ l.label)
