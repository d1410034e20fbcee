-- Rows that stand in a buffer which becomes a netlist file: the scope paper, "The netlist file".
-- Interface: RowsStand, held_row, held_rows.
-- Assumes nothing.
use Rattle.std.specs.Prelude.{ℕ, ◌+◌, ◌<◌, ◌≡◌, List, length}
use Rattle.memory.specs.Lists.{tabulate}
use Rattle.memory.specs.Fields.{byte_at}
use Rattle.netlist.specs.Rows.{Row, decode_row, row_at}
use Rattle.netlist.specs.FileFormat.{row_offset, read_fields, row_bytes}

-- The eight bytes from a row's offset on are the row's; nothing is said of other bytes.
abbrev pub RowsStand : List Row → List ℕ → Type 0
RowsStand rs f = (i d : ℕ) → i < length rs → d < 8 → byte_at f (row_offset i + d) ≡ byte_at (row_bytes (row_at rs i)) d

-- What is read as row i of the bytes f, and as the first n rows.
abbrev pub held_row : List ℕ → ℕ → Row
held_row f i = decode_row (read_fields f i)

abbrev pub held_rows : List ℕ → ℕ → List Row
held_rows f n = tabulate n (held_row f)
