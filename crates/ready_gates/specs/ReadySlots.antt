-- Slots of two bytes, one for each of n rows; the slot of a row that can be placed next is 1. Behind them a byte for each group of 64 rows.
-- Interface: ready_slot, first_ready, ReadyMarked, SlotsKept, MadeReady.
-- Assumes nothing.
use Rattle.std.specs.Prelude.{ℕ, ◌+◌, ◌-◌, ◌*◌, ◌<◌, ◌≤◌, ◌/◌, min, ◌≡◌, List, length, eqb}
use Rattle.memory.specs.Lists.{first_from}
use Rattle.memory.specs.Fields.{byte_at}
use Rattle.memory.specs.Slots.{slot_at}

abbrev pub ready_slot : ℕ
ready_slot = 1

-- The first ready row of rows i to j - 1; j if none is.
abbrev pub first_ready_from : List ℕ → ℕ → ℕ → ℕ
first_ready_from w i j = first_from i (j - i) (λ x. eqb (slot_at w x) ready_slot)

-- The first ready row of all; n if none is.
abbrev pub first_ready : ℕ → List ℕ → ℕ
first_ready n w = first_ready_from w 0 n

-- Where the rows of group g end: 64 rows after its first, or at n.
abbrev pub group_end : ℕ → ℕ → ℕ
group_end n g = min (64 * g + 64) n

-- w has room for n slots and the marks of their groups.
abbrev pub ReadyRoom : ℕ → List ℕ → Type 0
ReadyRoom n w = 2 * n + (n + 63) / 64 ≤ length w

-- A ready row stands in a marked group, and not below `low`.
pub record ReadyMarked (n : ℕ) (w : List ℕ) (low : ℕ) : Type 0 where
  pub room : ReadyRoom n w
  pub marked : (i : ℕ) → i < n → slot_at w i ≡ ready_slot → 0 < byte_at w (2 * n + i / 64)
  pub above : (i : ℕ) → i < n → slot_at w i ≡ ready_slot → low ≤ i

-- The slots stay; marks may change.
pub record SlotsKept (n : ℕ) (w w' : List ℕ) : Type 0 where
  pub long : length w' ≡ length w
  pub slots : (i : ℕ) → i < n → slot_at w' i ≡ slot_at w i

-- Row j is ready; the other slots stay.
pub record MadeReady (n : ℕ) (w : List ℕ) (j : ℕ) (w' : List ℕ) : Type 0 where
  pub long : length w' ≡ length w
  pub ready : slot_at w' j ≡ ready_slot
  pub others : (i : ℕ) → i < n → ¬ (i ≡ j) → slot_at w' i ≡ slot_at w i
