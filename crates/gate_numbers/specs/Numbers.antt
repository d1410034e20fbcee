-- The rows' new numbers in slots of two bytes: while gates are placed, and once every row has its number.
-- Interface: placed_slot, Numbered; inside the crate of_kinds, KindsFit, KindsNumbered, SourcesNumbered, is_placed_in, gate_of, users_of, Woken, Placed, NextGate, GatePlaced, node_order, NodesPlaced.
-- Assumes nothing.
use Rattle.std.specs.Prelude.{ℕ, ◌+◌, ◌<◌, ◌≤◌, ◌≡◌, Bool, true, cond, ◌&&◌, List, ◌++◌, length, leb}
use Rattle.memory.specs.Lists.{all_of}
use Rattle.memory.specs.Slots.{slot_at, set_slot}
use Rattle.netlist.specs.Rows.{Row, row_at, kind_of}
use Rattle.questions.specs.Questions.{no_refusal}
use Rattle.ordering.specs.GateOrder.{is_gate, is_source, operands_of, is_in, gate_order, rows_that, new_number, sorted_order}
use Rattle.ordering.specs.SortQuestions.{loop_refusal}
use Rattle.ready_gates.specs.ReadySlots.{ready_slot, ReadyMarked}
use Rattle.gate_users.specs.Users.{uses}

-- A placed row's slot is this, plus its new number.
abbrev pub placed_slot : ℕ
placed_slot = 32768

-- Every row has its number.
pub record Numbered (rows : List Row) (w : List ℕ) : Type 0 where
  pub slots : (i : ℕ) → i < length rows → slot_at w i ≡ placed_slot + new_number (sorted_order rows) i

-- ---- rows numbered by kind

abbrev pub of_kinds : ℕ → ℕ → Row → Bool
of_kinds least most r = leb least (kind_of r) && leb (kind_of r) most

-- Numbered from `number` on, the rows of these kinds get numbers below n.
pub record KindsFit (rows : List Row) (least most number n : ℕ) : Type 0 where
  pub upto : number + length (rows_that rows (of_kinds least most)) ≤ n

-- The rows of these kinds have numbers in row order, from `number` on; the other slots stay.
pub record KindsNumbered (rows : List Row) (least most number : ℕ) (w w' : List ℕ) : Type 0 where
  pub slots : (i : ℕ) → i < length rows → slot_at w' i ≡ cond (of_kinds least most (row_at rows i)) (placed_slot + (number + new_number (rows_that rows (of_kinds least most)) i)) (slot_at w i)

-- The sources are numbered, and no other row.
pub record SourcesNumbered (rows : List Row) (w : List ℕ) : Type 0 where
  pub slots : (i : ℕ) → i < length rows → slot_at w i ≡ cond (is_in i (rows_that rows is_source)) (placed_slot + new_number (rows_that rows is_source) i) 0

-- ---- gates that become ready

abbrev pub is_placed_in : List ℕ → ℕ → Bool
is_placed_in w i = leb placed_slot (slot_at w i)

-- Row i is a gate, and the test holds of all nodes that it names.
abbrev pub gate_of : List Row → (ℕ → Bool) → ℕ → Bool
gate_of rows f i = is_gate (row_at rows i) && all_of f (operands_of (row_at rows i))

-- Row i names the node.
abbrev pub users_of : List Row → ℕ → ℕ → Bool
users_of rows node i = uses rows i node

-- Of the gates of which the test holds, each that names placed nodes alone becomes ready; the other slots stay.
pub record Woken (rows : List Row) (asked : ℕ → Bool) (w w' : List ℕ) : Type 0 where
  pub slots : (i : ℕ) → i < length rows → slot_at w' i ≡ cond (asked i && gate_of rows (is_placed_in w) i) ready_slot (slot_at w i)

-- ---- gates placed one after the other

-- The slot of row i once the rows of `order` are placed: its number if it is one of them, and else whether it can be placed next.
abbrev pub slot_for : List Row → List ℕ → ℕ → ℕ
slot_for rows order i = cond (is_in i order) (placed_slot + new_number order i) (cond (gate_of rows (λ j. is_in j order) i) ready_slot 0)

-- The rows of `order` are placed, and the gates that name them alone are ready.
pub record Placed (rows : List Row) (order w : List ℕ) : Type 0 where
  pub slots : (i : ℕ) → i < length rows → slot_at w i ≡ slot_for rows order i

-- Row r is the lowest that is ready, and no row that names it is placed or ready.
pub record NextGate (rows : List Row) (n : ℕ) (w : List ℕ) (r : ℕ) : Type 0 where
  pub inside : r < n
  pub lowest : ReadyMarked n w r
  pub ready : slot_at w r ≡ ready_slot
  pub users : (i : ℕ) → i < length rows → users_of rows r i ≡ true → slot_at w i ≡ 0

-- Row r gets the number, and then the gates that name it become ready if they name placed nodes alone.
pub record GatePlaced (rows : List Row) (n : ℕ) (w : List ℕ) (r number : ℕ) (w' : List ℕ) : Type 0 where
  pub gate : NextGate rows n w r
  pub woken : Woken rows (users_of rows r) (set_slot w r (placed_slot + number)) w'

-- The new order up to the outputs.
abbrev pub node_order : List Row → List ℕ
node_order rows = rows_that rows is_source ++ gate_order rows

-- Every gate can be placed, and all n nodes are.
pub record NodesPlaced (rows : List Row) (w : List ℕ) (n : ℕ) : Type 0 where
  pub passed : loop_refusal rows ≡ no_refusal
  pub count : n ≡ length (node_order rows)
  pub placed : Placed rows (node_order rows) w
