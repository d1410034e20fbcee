-- Gates in any order, put into one that a file may have: the change requests, "gates in any order".
-- The constant comes first, then inputs and registers in row order, then always the lowest-numbered gate whose gate operands are all placed, then the outputs in row order, with all literals renumbered.
-- Interface: is_gate, gate_order, sorted_order, sorted_netlist; in plain words, Grounded says which gates are placed, IsGateOrder what an order is, and Lowest which one is meant.
-- Assumes nothing.
use Rattle.std.specs.Prelude.{ℕ, zero, suc, ◌+◌, ◌*◌, ◌<◌, ◌≤◌, ◌/◌, ◌%◌, ◌≡◌, Bool, true, false, cond, not, ◌&&◌, ◌||◌, List, [], ◌∷◌, ◌++◌, map, length, get_or, eqb, ltb}
use Rattle.memory.specs.Lists.{all_of, join_below, first_from, Among}
use Rattle.netlist.specs.Rows.{Row, row_at, kind_of, is_output, map_literals, fanin_nodes}

-- A gate is an AND, an XOR or a MUX. The other nodes, constant, inputs and registers, are sources.
abbrev pub is_gate : Row → Bool
is_gate r = ltb 2 (kind_of r) && ltb (kind_of r) 6

abbrev pub is_source : Row → Bool
is_source r = ltb (kind_of r) 3

-- The nodes that a gate names; none if the row is no gate.
abbrev pub operands_of : Row → List ℕ
operands_of r = cond (is_gate r) (fanin_nodes r) []

-- i is in the list.
abbrev pub is_in : ℕ → List ℕ → Bool
is_in i [] = false
is_in i (j ∷ js) = eqb i j || is_in i js

module _ (rows : List Row) where
  -- The gate in row i is not placed, and each gate that it names is: `placed` has the rows of the gates placed so far.
  abbrev pub is_ready : List ℕ → ℕ → Bool
  is_ready placed i = is_gate (row_at rows i) && not (is_in i placed) && all_of (λ j. not (is_gate (row_at rows j)) || is_in j placed) (fanin_nodes (row_at rows i))

  -- The lowest-numbered gate that is ready; the number of rows if none is.
  unfoldable pub lowest_ready : List ℕ → ℕ
  lowest_ready placed = first_from 0 (length rows) (is_ready placed)

  -- The gates placed in k rounds, in their order; a round in which none is ready places none.
  unfoldable pub placed_gates : ℕ → List ℕ
  placed_gates zero = []
  placed_gates (suc k) = let placed = placed_gates k in let i = lowest_ready placed in cond (ltb i (length rows)) (placed ++ (i ∷ [])) placed

  -- All gates that are ever placed: there are no more of them than rows.
  unfoldable pub gate_order : List ℕ
  gate_order = placed_gates (length rows)

  -- The rows that pass the test, in row order.
  abbrev pub rows_that : (Row → Bool) → List ℕ
  rows_that f = join_below (length rows) (λ i. cond (f (row_at rows i)) (i ∷ []) [])

  -- The old row numbers in their new order. Of an accepted file the first is row 0, the constant.
  unfoldable pub sorted_order : List ℕ
  sorted_order = rows_that is_source ++ gate_order ++ rows_that is_output

-- The new number of row i, its place in the order; the order's length if it has none.
unfoldable pub new_number : List ℕ → ℕ → ℕ
new_number order i = first_from 0 (length order) (λ x. eqb (get_or order x 0) i)

abbrev pub renumber_by : List ℕ → ℕ → ℕ
renumber_by order l = 2 * new_number order (l / 2) + l % 2

unfoldable pub sorted_netlist : List Row → List Row
sorted_netlist rows = let order = sorted_order rows in map (λ (i : ℕ). map_literals (renumber_by order) (row_at rows i)) order

-- ---- in plain words

-- Each gate that row i names is grounded. So no loop of gates is grounded, nor a gate behind one.
pub data Grounded (rows : List Row) : ℕ → Type 0 where
  grounded : (i : ℕ) → ((j : ℕ) → Among j (fanin_nodes (row_at rows i)) → is_gate (row_at rows j) ≡ true → Grounded rows j) → Grounded rows i

-- In the list gate i stands before place y.
abbrev pub StandsBefore : List ℕ → ℕ → ℕ → Type 0
StandsBefore order y i = (x : ℕ) × (x < y) × (get_or order x 0 ≡ i)

-- The list has each gate once, and no other row, and each gate stands after the gates that it names.
pub record IsGateOrder (rows : List Row) (order : List ℕ) : Type 0 where
  pub only : (x : ℕ) → x < length order → (get_or order x 0 < length rows) × (is_gate (row_at rows (get_or order x 0)) ≡ true)
  pub every : (i : ℕ) → i < length rows → is_gate (row_at rows i) ≡ true → Among i order
  pub once : (x y : ℕ) → x < length order → y < length order → get_or order x 0 ≡ get_or order y 0 → x ≡ y
  pub after : (y j : ℕ) → y < length order → Among j (fanin_nodes (row_at rows (get_or order y 0))) → is_gate (row_at rows j) ≡ true → StandsBefore order y j

-- Always the lowest-numbered gate whose gate operands are all placed: the gate at place y has the smallest number of all gates that do not stand before y and whose gates do.
abbrev pub Lowest : List Row → List ℕ → Type 0
Lowest rows order =
    (y i : ℕ) → y < length order
    → is_gate (row_at rows i) ≡ true
    → ¬ (StandsBefore order y i)
    → ((j : ℕ) → Among j (fanin_nodes (row_at rows i)) → is_gate (row_at rows j) ≡ true → StandsBefore order y j)
    → get_or order y 0 ≤ i
