-- Question 8's marks: bits that say which names are taken. There is a bit for each slot, or few bits, which slots share.
-- Interface: mark_bytes, NamesMarked.
-- Assumes nothing.
use Rattle.std.specs.Prelude.{ℕ, ◌+◌, ◌*◌, ◌<◌, ◌/◌, ◌%◌, ◌^◌, ◌≡◌, Bool, true, cond, List, length, set}
use Rattle.std.specs.Int.Bits.{bit_or}
use Rattle.memory.specs.Fields.{byte_at}
use Rattle.netlist.specs.Rows.{Row, row_at, has_name}
use Rattle.row_questions.specs.Slots.{labels, all_slots, slot_of}

-- How many bits there are if they are few.
abbrev pub few_bits : ℕ
few_bits = 2 ^ 13

-- How many bytes of marks there are.
abbrev pub mark_bytes : Bool → ℕ
mark_bytes few = cond few few_bits all_slots / 8

-- Which bit is a slot's. Few bits are shared so that equal labels of inputs, registers and outputs lie apart.
abbrev pub bit_of_slot : Bool → ℕ → ℕ
bit_of_slot few slot = cond few ((slot + slot / labels * 352) % few_bits) slot

abbrev pub taken_bit : List ℕ → ℕ → ℕ
taken_bit marks s = byte_at marks (s / 8) / 2 ^ (s % 8) % 2

-- The marks with bit s set.
abbrev pub with_bit : List ℕ → ℕ → List ℕ
with_bit marks s = set marks (s / 8) (bit_or (byte_at marks (s / 8)) (2 ^ (s % 8)))

-- Each name of the first n rows has its bit set; so a name whose bit is not set is new. This only limits the marks: a bit that no name has may be set too, since nothing rests on it but a comparison more.
pub record NamesMarked (few : Bool) (rows : List Row) (n : ℕ) (marks : List ℕ) : Type 0 where
  pub size : length marks ≡ mark_bytes few
  pub taken : (j : ℕ) → j < n → has_name (row_at rows j) ≡ true → taken_bit marks (bit_of_slot few (slot_of (row_at rows j))) ≡ 1
