-- A way from gate to gate that runs into itself, as rows in slots of two bytes.
-- Interface: IsWay.
-- Assumes nothing.
use Rattle.std.specs.Prelude.{ℕ, ◌+◌, ◌<◌, ◌≡◌, List, length}
use Rattle.memory.specs.Lists.{Among}
use Rattle.memory.specs.Slots.{slot_at}
use Rattle.netlist.specs.Rows.{Row, row_at}
use Rattle.ordering.specs.GateOrder.{operands_of}

-- Row i is a gate, and names row j.
abbrev pub Names : List Row → ℕ → ℕ → Type 0
Names rows i j = Among j (operands_of (row_at rows i))

-- In the first n slots are rows, and each names the next one.
pub record Chain (rows : List Row) (list : List ℕ) (n : ℕ) : Type 0 where
  pub inside : (x : ℕ) → x < n → slot_at list x < length rows
  pub each : (x : ℕ) → x + 1 < n → Names rows (slot_at list x) (slot_at list (x + 1))

-- The last one names that in slot `start`: from there on they are a loop. If n is 0, there is no way.
pub record IsWay (rows : List Row) (list : List ℕ) (n start : ℕ) : Type 0 where
  pub chain : Chain rows list n
  pub early : 0 < n → start < n
  pub closed : (x : ℕ) → x + 1 ≡ n → Names rows (slot_at list x) (slot_at list start)

-- Of n slots, slot `start` has this row; or there is no way.
pub record ClosedAt (list : List ℕ) (n row count start : ℕ) : Type 0 where
  pub all : 0 < count → count ≡ n
  pub early : 0 < count → start < n
  pub has : 0 < count → slot_at list start ≡ row
