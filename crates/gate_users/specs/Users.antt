-- The gates that name a node, from the highest row down, and the lists that lent memory has of them.
-- Interface: uses, last_user, Listed, and what a turn changes: HeadsKept, HeadsSet.
-- Assumes nothing.
use Rattle.std.specs.Prelude.{ℕ, zero, suc, ◌+◌, ◌*◌, ◌<◌, ◌≡◌, Bool, cond, List, length, get_or}
use Rattle.memory.specs.Fields.{u16_at}
use Rattle.memory.specs.Frames.{KeptOutside}
use Rattle.memory.specs.Slots.{slot_at}
use Rattle.netlist.specs.Rows.{Row, row_at}
use Rattle.ordering.specs.GateOrder.{is_in, operands_of}

-- Row x is a gate that names node y.
abbrev pub uses : List Row → ℕ → ℕ → Bool
uses rows x y = is_in y (operands_of (row_at rows x))

-- The last gate below m that names y; 0 if there is none, since row 0 is no gate.
unfoldable pub last_user : List Row → ℕ → ℕ → ℕ
last_user rows y zero = zero
last_user rows y (suc m) = cond (uses rows m y) m (last_user rows y m)

-- The lists of the first m rows: the head of each node's, and for each operand of a row the user that follows the row.
pub record Listed (rows : List Row) (u : List ℕ) (m : ℕ) : Type 0 where
  pub heads : (y : ℕ) → y < length rows → slot_at u y ≡ last_user rows y m
  pub entries : (x k : ℕ) → x < m → k < length (operands_of (row_at rows x)) → u16_at u (2 * length rows + 6 * x + 2 * k) ≡ last_user rows (get_or (operands_of (row_at rows x)) k 0) x

-- The first m entries of row x are the heads of the lists of the nodes that it names; all but its entries stays.
pub record HeadsKept (rows : List Row) (x m : ℕ) (u u' : List ℕ) : Type 0 where
  pub entries : (k : ℕ) → k < m → u16_at u' (2 * length rows + 6 * x + 2 * k) ≡ slot_at u (get_or (operands_of (row_at rows x)) k 0)
  pub others : KeptOutside (2 * length rows + 6 * x) (2 * length rows + 6 * x + 6) u u'

-- Row x is the head of the lists of these nodes; all else stays.
pub record HeadsSet (rows : List Row) (x : ℕ) (ys : List ℕ) (u u' : List ℕ) : Type 0 where
  pub heads : (y : ℕ) → y < length rows → slot_at u' y ≡ cond (is_in y ys) x (slot_at u y)
  pub others : KeptOutside 0 (2 * length rows) u u'
