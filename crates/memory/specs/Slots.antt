-- A table of slots, two bytes for each: a number for each row, say.
-- Interface: slot_at, set_slot.
-- Assumes nothing.
use Rattle.std.specs.Prelude.{ℕ, ◌*◌, List}
use Rattle.std.proofs.lemmas.List.Edits.{sets}
use Rattle.memory.specs.Fields.{u16_at, u16_bytes}

-- Slot j; 0 past the end.
abbrev pub slot_at : List ℕ → ℕ → ℕ
slot_at w j = u16_at w (2 * j)

-- w with v in slot j.
abbrev pub set_slot : List ℕ → ℕ → ℕ → List ℕ
set_slot w j v = sets w (2 * j) (u16_bytes v)
