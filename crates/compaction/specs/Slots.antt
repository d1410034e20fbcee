-- How many slots are read, and the marks and new numbers that they have once the cone is found.
-- Assumes nothing.
use Rattle.std.specs.Prelude.{ℕ, ◌+◌, ◌*◌, ◌^◌, ◌<◌, ◌≡◌, Bool, cond, List}
use Rattle.memory.specs.Slots.{slot_at}
use Rattle.abstraction.specs.Compaction.{is_marked, new_index}
use Rattle.fold_memory.specs.WorkMap.{slots_start}

-- As many slots are read, so that every literal has one.
abbrev pub slot_count : ℕ
slot_count = 8192

abbrev pub read_end : ℕ
read_end = slots_start + 2 * slot_count

-- A mark as a number.
abbrev pub mark_bit : Bool → ℕ
mark_bit t = cond t 1 0

-- Row j's new number, with its mark in bit 15.
abbrev pub new_number : List Bool → ℕ → ℕ
new_number m j = new_index m j + 2 ^ 15 * mark_bit (is_marked m j)

-- The slots have the numbers of these marks.
abbrev pub Numbered : List ℕ → ℕ → List Bool → Type 0
Numbered w n m = (j : ℕ) → j < n → slot_at w j ≡ new_number m j
