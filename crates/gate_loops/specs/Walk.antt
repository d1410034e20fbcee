-- The walk from gate to gate, in slots of two bytes: a row's slot is 0 while it is not seen, 1 + the row that led to it while it is open (1 where the walk started), and 65535 once it is settled.
-- Interface: first_slot, SourcesSettled, Unsettled, WalkReady, Walked.
-- Assumes nothing.
use Rattle.std.specs.Prelude.{ℕ, ◌<◌, ◌≡◌, Bool, true, cond, ◌&&◌, List, length, ltb}
use Rattle.memory.specs.Lists.{Among}
use Rattle.memory.specs.Slots.{slot_at}
use Rattle.netlist.specs.Rows.{Row, row_at}
use Rattle.ordering.specs.GateOrder.{is_gate, operands_of, Grounded}

abbrev pub settled_slot : ℕ
settled_slot = 65535

abbrev pub is_open : ℕ → Bool
is_open s = ltb 0 s && ltb s settled_slot

-- A row's slot before any walk: a row that is no gate is settled, and no gate is seen.
abbrev pub first_slot : Row → ℕ
first_slot r = cond (is_gate r) 0 settled_slot

-- Each row has this slot.
abbrev pub SourcesSettled : List Row → List ℕ → Type 0
SourcesSettled rows w = (x : ℕ) → x < length rows → slot_at w x ≡ first_slot (row_at rows x)

-- r is the node that row i waits for: one that it names and that is not settled; 0 if it waits for none, where row 0 is settled.
pub record Unsettled (rows : List Row) (w : List ℕ) (i r : ℕ) : Type 0 where
  pub inside : r < length rows
  pub none : r ≡ 0 → slot_at w 0 ≡ settled_slot → (j : ℕ) → Among j (operands_of (row_at rows i)) → slot_at w j ≡ settled_slot
  pub some : ¬ (r ≡ 0) → Among r (operands_of (row_at rows i)) × (¬ (slot_at w r ≡ settled_slot))

-- A settled gate is grounded, and a row that is no gate is settled.
pub record Settled (rows : List Row) (w : List ℕ) : Type 0 where
  pub sound : (x : ℕ) → x < length rows → is_gate (row_at rows x) ≡ true → slot_at w x ≡ settled_slot → Grounded rows x
  pub sources : (x : ℕ) → x < length rows → ¬ (is_gate (row_at rows x) ≡ true) → slot_at w x ≡ settled_slot

-- No slot is open: each is 0 or settled.
abbrev pub NoneOpen : List Row → List ℕ → Type 0
NoneOpen rows w = (x : ℕ) → x < length rows → ¬ (is_open (slot_at w x) ≡ true)

-- A walk can start from `root`, a gate that is not seen.
pub record WalkReady (rows : List Row) (w : List ℕ) (root : ℕ) : Type 0 where
  pub settled : Settled rows w
  pub closed : NoneOpen rows w
  pub unseen : slot_at w root ≡ 0

-- The walk has settled `root`; what was settled stays so.
pub record Walked (rows : List Row) (w w' : List ℕ) (root : ℕ) : Type 0 where
  pub settled : Settled rows w'
  pub closed : NoneOpen rows w'
  pub reached : slot_at w' root ≡ settled_slot
  pub kept : (x : ℕ) → x < length rows → slot_at w x ≡ settled_slot → slot_at w' x ≡ settled_slot
