-- A row's literals: how many there are, and the row with them renumbered.
-- Interface: literal_count, renumber_fields, renumber_in, HasSlots.
-- Assumes nothing.
use Rattle.std.specs.Prelude.{ℕ, ◌+◌, ◌*◌, ◌/◌, ◌%◌, ◌^◌, ◌≤◌, cond, List, length, ltb}
use Rattle.memory.specs.Slots.{slot_at}
use Rattle.netlist.specs.Rows.{RowFields, literals_of, row_from_fields}

-- How many literals a row of kind k has: its first fields.
abbrev pub literal_count : ℕ → ℕ
literal_count k = length (literals_of (row_from_fields k 0 0 0 0))

-- g of each field that is a literal.
abbrev pub renumber_fields : (ℕ → ℕ) → RowFields → RowFields
renumber_fields g w =
    let k = literal_count w.kind in
    record { kind = w.kind; reset = w.reset; a = cond (ltb 0 k) (g w.a) w.a; b = cond (ltb 1 k) (g w.b) w.b; c = cond (ltb 2 k) (g w.c) w.c }

-- w has n slots, and at least one.
abbrev pub HasSlots : List ℕ → ℕ → Type 0
HasSlots w n = (1 ≤ n) × (2 * n ≤ length w)

-- The literal l by the numbers in the n slots of w: a row's number is the low 15 bits of its slot, and rows are taken modulo n.
abbrev pub renumber_in : List ℕ → ℕ → ℕ → ℕ
renumber_in w n l = 2 * (slot_at w (l / 2 % n) % 2 ^ 15) + l % 2
