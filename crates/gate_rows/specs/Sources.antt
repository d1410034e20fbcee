-- Rows that are sorted, and how they stand in bytes: as a netlist file, or as pairs of numbers.
-- Interface: pair_count, pair_row, pair_rows, source_rows, Source.
-- Assumes nothing.
use Rattle.std.specs.Prelude.{ℕ, ◌+◌, ◌-◌, ◌*◌, ◌<◌, ◌≤◌, ◌≡◌, cond, List, length, eqb, leb}
use Rattle.memory.specs.Lists.{tabulate}
use Rattle.memory.specs.Fields.{u16_at}
use Rattle.netlist.specs.Limits.{most_rows}
use Rattle.netlist.specs.Rows.{Row, constant, input, register, and_gate, output, encode_row, row_at}
use Rattle.netlist.specs.FileFormat.{row_offset, read_fields, netlist_of}
use Rattle.netlist.specs.WellFormed.{ResetIn, UnorderedRows}
use Rattle.gate_rows.specs.declared.Pairs.{Pairs}
use Rattle.gate_rows.specs.declared.Layout.{Layout}
use Rattle.gate_rows.specs.declared.Layout.TheVariants as layout

-- How many rows stand as pairs.
abbrev pub pair_count : Pairs → ℕ
pair_count c = 1 + c.inputs + c.registers + c.gates + c.outputs

-- Row r: its pair is two numbers of 16 bits, at 4 * r. A register's pair is its next value and its reset, a gate's its operands, an output's its literal and nothing; labels are positions.
abbrev pub pair_row : Pairs → List ℕ → ℕ → Row
pair_row c s r =
    let a = u16_at s (4 * r) in
    let b = u16_at s (4 * r + 2) in
    cond (eqb r 0) constant
    (cond (leb r c.inputs) (input (r - 1) 0)
    (cond (leb r (c.inputs + c.registers)) (register b a (r - 1 - c.inputs))
    (cond (leb r (c.inputs + c.registers + c.gates)) (and_gate a b) (output a (r - 1 - c.inputs - c.registers - c.gates) 0))))

-- Its kind, whatever its pair is.
abbrev pub pair_kind : Pairs → ℕ → ℕ
pair_kind c r = cond (eqb r 0) 0 (cond (leb r c.inputs) 1 (cond (leb r (c.inputs + c.registers)) 2 (cond (leb r (c.inputs + c.registers + c.gates)) 3 6)))

abbrev pub pair_rows : Pairs → List ℕ → List Row
pair_rows c s = tabulate (pair_count c) (pair_row c s)

-- The rows that stand in s.
unfoldable pub source_rows : Layout → List ℕ → List Row
source_rows layout.File s = netlist_of s
source_rows (layout.Pairs c) s = pair_rows c s

-- Where operand number i of row r stands.
abbrev pub operand_offset : Layout → ℕ → ℕ → ℕ
operand_offset layout.File r i = row_offset r + 2 + 2 * i
operand_offset (layout.Pairs c) r i = 4 * r + 2 * i

-- Each row of a file stands in it, and its fields are what its eight bytes say: its kind is 0 to 6, and it has no other fields than its kind names.
pub record FileStands (s : List ℕ) : Type 0 where
  pub inside : (i : ℕ) → i < length (netlist_of s) → row_offset i + 8 ≤ length s
  pub fields : (i : ℕ) → i < length (netlist_of s) → encode_row (row_at (netlist_of s) i) ≡ read_fields s i

-- There is room for each pair.
abbrev pub Stands : Layout → List ℕ → Type 0
Stands layout.File s = FileStands s
Stands (layout.Pairs c) s = 4 * pair_count c ≤ length s

-- Row r stands as a pair in s.
pub record PairStands (c : Pairs) (s : List ℕ) (r : ℕ) : Type 0 where
  pub few : pair_count c ≤ most_rows
  pub inside : r < pair_count c
  pub room : 4 * r + 4 ≤ length s
  pub reset : ResetIn (pair_row c s r)

-- n rows stand in s: what the sorter asks of its source.
pub record Source (layout : Layout) (s : List ℕ) (n : ℕ) : Type 0 where
  pub stand : Stands layout s
  pub count : n ≡ length (source_rows layout s)
  pub few : n ≤ most_rows
  pub rows : UnorderedRows (source_rows layout s)
