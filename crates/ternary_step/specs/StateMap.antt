-- Work memory while the lasso is sought: each row's value, a byte each, the registers' next-value literals, two bytes each, and the states, four registers to a byte.
-- Interface: ClearedWork, Packed, Stored, Valued.
-- Assumes nothing.
use Rattle.std.specs.Prelude.{ℕ, ◌+◌, ◌*◌, ◌<◌, ◌≤◌, ◌/◌, ◌%◌, ◌^◌, ◌≡◌, true, cond, List, [], ◌∷◌, length, get_or, take}
use Rattle.memory.specs.Lists.{join_below, tabulate, count_if}
use Rattle.memory.specs.Fields.{byte_at, u16_at}
use Rattle.ternary.specs.Ternary.{Ternary, X, code_of, value_of}
use Rattle.netlist.specs.Limits.{most_original_rows, most_original_registers, fold_work_bytes, last_state}
use Rattle.netlist.specs.Rows.{Row, decode_row, row_at, on_register, is_register}
use Rattle.netlist.specs.FileFormat.{netlist_of}
use Rattle.netlist.specs.Simulation.{literal_value, row_value, run_value}
use Rattle.lasso.specs.TernaryRun.{ternary_logic}
use Rattle.netlist.specs.WellFormed.{OperandsBelow, FoldableRows}
use Rattle.lasso.specs.Generators.{state_value}
use Rattle.blockfile.specs.RowCode.{fields_in}
use Rattle.blockfile.specs.declared.Fields.{Fields}
use Rattle.blockfile.specs.Ready.{Ready}
use Rattle.fold_memory.specs.WorkMap.{value_offset, next_offset, state_bytes, state_offset}

-- The work memory at the start: long enough, and all 0.
pub record ClearedWork (w : List ℕ) : Type 0 where
  pub room : fold_work_bytes ≤ length w
  pub zero : (x : ℕ) → byte_at w x ≡ 0

-- ---- a state

-- The two bits number e of a byte.
abbrev pub pair_of : ℕ → ℕ → ℕ
pair_of b e = b / 2 ^ (e * 2) % 4

-- Register j in the state from base on.
abbrev pub code_at : List ℕ → ℕ → ℕ → ℕ
code_at w base j = pair_of (byte_at w (base + j / 4)) (j % 4)

-- The codes cs stand in the 64 bytes from base on, four to a byte; behind them all bits are 0.
abbrev pub Packed : List ℕ → ℕ → List ℕ → Type 0
Packed w base cs = (k e : ℕ) → k < state_bytes → e < 4 → pair_of (byte_at w (base + k)) e ≡ get_or cs (4 * k + e) 0

-- How many of the first i rows are registers: the number of a register in row i.
abbrev pub registers_before : List Row → ℕ → ℕ
registers_before rows i = count_if is_register (take i rows)

-- The next-value literal of a register.
abbrev pub next_of : Row → ℕ
next_of r = on_register 0 (λ s a l. a) r

-- What the registers of the first i rows hold in state t.
unfoldable pub state_codes : List Row → ℕ → ℕ → List ℕ
state_codes rows t i = join_below i (λ x. cond (is_register (row_at rows x)) (code_of (state_value rows x t) ∷ []) [])

-- State t stands at its offset.
abbrev pub Stored : List Row → List ℕ → ℕ → Type 0
Stored rows w t = Packed w (state_offset t) (state_codes rows t (length rows))

-- ---- the rows' values

abbrev pub value_in : List ℕ → ℕ → Ternary
value_in w x = value_of (byte_at w (value_offset x))

-- The value of row x in step t of the three-valued run.
abbrev pub step_value : List Row → ℕ → ℕ → Ternary
step_value rows t x = run_value ternary_logic rows (λ l. X) (λ s l p. X) t x

-- The values of the first i rows in step t.
abbrev pub Valued : List Row → List ℕ → ℕ → ℕ → Type 0
Valued rows w t i = (x : ℕ) → x < i → byte_at w (value_offset x) ≡ code_of (step_value rows t x)

-- The memory has room for the values and the list, and each row's byte is a code.
pub record Coded (w : List ℕ) : Type 0 where
  pub room : state_offset 0 ≤ length w
  pub code : (x : ℕ) → x < most_original_rows → byte_at w (value_offset x) < 3

abbrev pub literal_in : List ℕ → ℕ → Ternary
literal_in w l = literal_value ternary_logic (value_in w) l

-- ---- a step

-- What working out a row of these fields asks; its operands name rows below some bound, and register j is one.
pub record RowToEvaluate (w : List ℕ) (r : Fields) (base j : ℕ) : Type 0 where
  pub coded : Coded w
  pub bound : ℕ
  pub few : bound ≤ most_original_rows
  pub operands : OperandsBelow bound (decode_row (fields_in r))
  pub room : base + state_bytes ≤ length w
  pub held : is_register (decode_row (fields_in r)) ≡ true → (j < most_original_registers) × (code_at w base j < 3)

abbrev pub row_in : List ℕ → Fields → ℕ → ℕ → Ternary
row_in w r base j = row_value ternary_logic (value_of (code_at w base j)) (λ l p. X) (value_in w) (decode_row (fields_in r))

-- A byte that is no code.
abbrev pub no_code : ℕ
no_code = 3

-- Row i is one of the n rows of the file f, and j registers stand before it.
pub record AtRow (f : List ℕ) (n i j : ℕ) : Type 0 where
  pub ready : Ready FoldableRows f n
  pub within : i < n
  pub number : j ≡ registers_before (netlist_of f) i

-- State t and the values of the first i rows in step t stand in the memory.
pub record Evaluated (rows : List Row) (w : List ℕ) (t i : ℕ) : Type 0 where
  pub coded : Coded w
  pub room : state_offset t + state_bytes ≤ length w
  pub state : Stored rows w t
  pub values : Valued rows w t i

-- ---- from state to state

-- The next-value literals of the registers among the first i rows stand in the list.
abbrev pub NextsListed : List Row → List ℕ → ℕ → Type 0
NextsListed rows w i = (x : ℕ) → x < i → is_register (row_at rows x) ≡ true → u16_at w (next_offset (registers_before rows x)) ≡ next_of (row_at rows x)

-- State 0 and the list have the registers of the first i rows, and where the other states stand later all is clear.
pub record Started (rows : List Row) (w : List ℕ) (i : ℕ) : Type 0 where
  pub coded : Coded w
  pub room : state_offset 0 + state_bytes ≤ length w
  pub part : Packed w (state_offset 0) (state_codes rows 0 i)
  pub nexts : NextsListed rows w i
  pub clear : (t : ℕ) → 1 ≤ t → t ≤ last_state → Packed w (state_offset t) []

-- What packing state m from the first n listed literals asks, and the codes of what these show.
pub record NextReady (w : List ℕ) (n m : ℕ) : Type 0 where
  pub coded : Coded w
  pub few : n ≤ most_original_registers
  pub known-state : m ≤ last_state
  pub room : state_offset m + state_bytes ≤ length w
  pub literals : (j : ℕ) → j < n → u16_at w (next_offset j) / 2 < most_original_rows
  pub clear : Packed w (state_offset m) []

abbrev pub shown_codes : List ℕ → ℕ → List ℕ
shown_codes w n = tabulate n (λ j. code_of (literal_in w (u16_at w (next_offset j))))

-- States 0 to m - 1 and the list stand in the memory, and where the other states stand later all is clear.
pub record Searched (rows : List Row) (w : List ℕ) (m : ℕ) : Type 0 where
  pub coded : Coded w
  pub room : state_offset m ≤ length w
  pub stored : (t : ℕ) → t < m → Stored rows w t
  pub clear : (t : ℕ) → m ≤ t → t ≤ last_state → Packed w (state_offset t) []
  pub nexts : NextsListed rows w (length rows)
