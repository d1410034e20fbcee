-- Values in lent memory, a byte 0 or 1 each, and a row's value in a step of Run.
-- Interface: IsBinary, bit, truth_at, bit_from, bit_byte, bit_bytes, no_value, held_in, value_in, RowToRun, RowInStep.
-- Assumes nothing.
use Rattle.std.specs.Prelude.{ℕ, ◌+◌, ◌-◌, ◌<◌, ◌≤◌, ◌≡◌, Bool, cond, not, List, map, eqb, length}
use Rattle.memory.specs.Fields.{byte_at}
use Rattle.netlist.specs.Limits.{most_rows}
use Rattle.netlist.specs.Rows.{Row, decode_row, row_at}
use Rattle.netlist.specs.FileFormat.{row_offset, read_fields, netlist_of}
use Rattle.netlist.specs.Simulation.{bool_logic, next_value, row_value}
use Rattle.netlist.specs.WellFormed.{OperandsBelow, NextBelow, ResetIn}
use Rattle.row_values.specs.declared.Step.{Step}

-- Each byte is 0 or 1.
pub record IsBinary (s : List ℕ) : Type 0 where
  pub each : (i : ℕ) → byte_at s i ≤ 1

-- The value of a byte, and the byte of a value.
abbrev pub bit : ℕ → Bool
bit n = not (eqb n 0)

abbrev pub truth_at : List ℕ → ℕ → Bool
truth_at s i = bit (byte_at s i)

-- The value of row i, where the rows' values stand from `from` on.
abbrev pub bit_from : List ℕ → ℕ → ℕ → Bool
bit_from s from i = truth_at s (from + i)

abbrev pub bit_byte : Bool → ℕ
bit_byte b = cond b 1 0

abbrev pub bit_bytes : List Bool → List ℕ
bit_bytes bs = map bit_byte bs

-- A byte that is no value.
abbrev pub no_value : ℕ
no_value = 2

-- What row i, which is r, holds as a register: in the initial step its byte from `previous` on, then what its literal showed in the last step, whose values stand there.
abbrev pub held_in : List ℕ → Step → ℕ → Row → Bool
held_in work s i r = cond s.initial (bit_from work s.previous i) (next_value bool_logic (bit_from work s.previous) r)

-- The value of row i, which is r, in the step s; k of the step's inputs are of rows before it.
abbrev pub value_in : List ℕ → List ℕ → Step → ℕ → ℕ → Row → Bool
value_in work inputs s k i r = row_value bool_logic (held_in work s i r) (λ l p. truth_at inputs (s.base + k)) (bit_from work s.current) r

-- Row i stands in the file, the operands of a gate and an output's literal name rows before it, and a register's reset is in range.
pub record RowToRun (f : List ℕ) (i : ℕ) : Type 0 where
  pub few : i < most_rows
  pub inside : row_offset i + 8 ≤ length f
  pub row_is : row_at (netlist_of f) i ≡ decode_row (read_fields f i)
  pub operands : OperandsBelow i (row_at (netlist_of f) i)
  pub reset : ResetIn (row_at (netlist_of f) i)

-- What the value of row i in the step s is worked out from: the row stands at `offset` and has this kind, its input is there if it is one, and memory has room for its values.
pub record RowInStep (f : List ℕ) (i offset kind : ℕ) (inputs : List ℕ) (used : ℕ) (work : List ℕ) (s : Step) : Type 0 where
  pub row : RowToRun f i
  pub offset-is : offset ≡ row_offset i
  pub kind-is : kind ≡ byte_at f offset
  pub inputs-fit : s.base + used ≤ length inputs
  pub input : kind ≡ 1 → s.base + used < length inputs
  pub inputs-binary : IsBinary inputs
  pub current-fits : s.current + i < length work
  pub previous-fits : s.previous + i < length work
  pub next : NextBelow (length work - s.previous) (row_at (netlist_of f) i)
  pub binary : IsBinary work
