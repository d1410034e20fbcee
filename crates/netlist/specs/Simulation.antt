-- A run of a netlist: the scope paper, "Values over time". The evaluator is written once, over the kind of values.
-- The concrete run is that over `bool_logic`; `TernaryRun` in `lasso` has the three-valued one.
-- A state is a list with one value for each row; at a row that is no register it is `low`, so states are equal exactly if their registers are.
-- Interface: Logic, bool_logic, run_state, run_value, RunValues, output_shows, register_holds.
-- Assumes nothing.
use Rattle.std.specs.Prelude.{ℕ, zero, suc, ◌/◌, ◌%◌, Bool, false, cond, not, ◌&&◌, List, [], ◌∷◌, ◌++◌, map, length, get_or}
use Rattle.netlist.specs.Rows.{Row, constant, input, register, and_gate, xor_gate, mux_gate, output, row_at, on_register, row_named}

-- What the evaluator asks of a kind of values: false, inversion, and the three gates.
pub record Logic : Type 1 where
  pub Value : Type 0
  pub low : Value
  pub inverse : Value → Value
  pub and_of : Value → Value → Value
  pub xor_of : Value → Value → Value
  pub mux_of : Value → Value → Value → Value

abbrev pub bool_xor : Bool → Bool → Bool
bool_xor a b = cond a (not b) b

abbrev pub bool_logic : Logic
bool_logic = record { Value = Bool; low = false; inverse = not; and_of = ◌&&◌; xor_of = bool_xor; mux_of = cond }

module _ (L : Logic) where
  -- v, inverted if the number is not 0.
  abbrev pub complement_if : ℕ → L.Value → L.Value
  complement_if zero v = v
  complement_if (suc k) v = L.inverse v

  -- A literal's value, where w gives each node's value.
  abbrev pub literal_value : (ℕ → L.Value) → ℕ → L.Value
  literal_value w l = complement_if (l % 2) (w (l / 2))

  -- A row's value: h is what the register holds, i the inputs by label and phase, w the values of the nodes. An output's value is what it shows.
  abbrev pub row_value : L.Value → (ℕ → ℕ → L.Value) → (ℕ → L.Value) → Row → L.Value
  row_value h i w constant = L.low
  row_value h i w (input l p) = i l p
  row_value h i w (register r n l) = h
  row_value h i w (and_gate a b) = L.and_of (literal_value w a) (literal_value w b)
  row_value h i w (xor_gate a b) = L.xor_of (literal_value w a) (literal_value w b)
  row_value h i w (mux_gate a b c) = L.mux_of (literal_value w a) (literal_value w b) (literal_value w c)
  row_value h i w (output a l p) = literal_value w a

  abbrev pub value_at : List L.Value → ℕ → L.Value
  value_at v i = get_or v i L.low

  -- What reset 0, 1 and X (2, and out of range every number above 2) start as, v the choice.
  abbrev pub start_by : ℕ → L.Value → L.Value
  start_by zero v = L.low
  start_by (suc zero) v = L.inverse L.low
  start_by (suc (suc r)) v = v

  -- What a register starts as, c the choices by label, and what it takes next, w the values of the nodes.
  abbrev pub reset_value : (ℕ → L.Value) → Row → L.Value
  reset_value c = on_register L.low (λ r n l. start_by r (c l))

  abbrev pub next_value : (ℕ → L.Value) → Row → L.Value
  next_value w = on_register L.low (λ r n l. literal_value w n)

  module _ (rows : List Row) where
    -- The values of the first n rows in one step: s the state, i the inputs by label and phase.
    unfoldable pub values_up_to : List L.Value → (ℕ → ℕ → L.Value) → ℕ → List L.Value
    values_up_to s i zero = []
    values_up_to s i (suc n) = let v = values_up_to s i n in v ++ (row_value (value_at s n) i (value_at v) (row_at rows n) ∷ [])

    unfoldable pub step_values : List L.Value → (ℕ → ℕ → L.Value) → List L.Value
    step_values s i = values_up_to s i (length rows)

    -- The state at step t: c the choices by label, i the inputs by step, label and phase.
    unfoldable pub run_state : (ℕ → L.Value) → (ℕ → ℕ → ℕ → L.Value) → ℕ → List L.Value
    run_state c i zero = map (reset_value c) rows
    run_state c i (suc t) = let v = step_values (run_state c i t) (i t) in map (next_value (value_at v)) rows

    -- The value of row n at step t.
    unfoldable pub run_value : (ℕ → L.Value) → (ℕ → ℕ → ℕ → L.Value) → ℕ → ℕ → L.Value
    run_value c i t n = value_at (step_values (run_state c i t) (i t)) n

-- ---- the words of demand 3

-- The values that a run is given: what each X register starts as, by label; what each input has, by step, label and phase.
pub record RunValues : Type 0 where
  pub choices : ℕ → Bool
  pub inputs : ℕ → ℕ → ℕ → Bool

-- What the output of this label and phase shows at step t.
abbrev pub output_shows : List Row → RunValues → ℕ → ℕ → ℕ → Bool
output_shows rows run label phase t = run_value bool_logic rows run.choices run.inputs t (row_named 6 label phase rows)

-- What the register of this label holds after t steps.
abbrev pub register_holds : List Row → RunValues → ℕ → ℕ → Bool
register_holds rows run label t = value_at bool_logic (run_state bool_logic rows run.choices run.inputs t) (row_named 2 label 0 rows)
