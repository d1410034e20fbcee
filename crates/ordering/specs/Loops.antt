-- A loop of gates, and a gate behind one, in plain words: the change requests, "gates in any order".
-- Interface: Names, Reaches, LoopBehind, LoopMeans.
-- Assumes nothing.
use Rattle.std.specs.Prelude.{ℕ, ◌≡◌, ◌↔◌, ◌⊎◌, true, List}
use Rattle.memory.specs.Lists.{Among}
use Rattle.netlist.specs.Rows.{Row, row_at, fanin_nodes}
use Rattle.ordering.specs.GateOrder.{is_gate, Grounded}

-- Row i names the gate in row j.
abbrev pub Names : List Row → ℕ → ℕ → Type 0
Names rows i j = Among j (fanin_nodes (row_at rows i)) × (is_gate (row_at rows j) ≡ true)

-- From row i one comes to the gate in row j, in one step or more, each to a gate that the row names.
pub data Reaches (rows : List Row) (i : ℕ) : ℕ → Type 0 where
  one : (j : ℕ) → Names rows i j → Reaches rows i j
  more : (j k : ℕ) → Reaches rows i j → Names rows j k → Reaches rows i k

-- The gate in row i is in a loop of gates or behind one: g, that gate or one that it comes to, comes to itself.
abbrev pub LoopBehind : List Row → ℕ → Type 0
LoopBehind rows i = (g : ℕ) × ((g ≡ i) ⊎ Reaches rows i g) × Reaches rows g g

-- The gates that are not grounded are those in a loop of gates or behind one.
abbrev pub LoopMeans : List Row → Type 0
LoopMeans rows = (i : ℕ) → is_gate (row_at rows i) ≡ true → (¬ (Grounded rows i)) ↔ LoopBehind rows i
