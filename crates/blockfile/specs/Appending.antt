-- Rows appended to those that stand in a buffer which becomes a netlist file.
-- Assumes nothing.
use Rattle.std.specs.Prelude.{ℕ, ◌+◌, ◌<◌, ◌≡◌, List, ◌++◌, length}
use Rattle.memory.specs.Fields.{byte_at}
use Rattle.netlist.specs.Rows.{Row}
use Rattle.netlist.specs.FileFormat.{row_offset, row_bytes}
use Rattle.blockfile.specs.RowsStand.{RowsStand}

-- The eight bytes of r stand where row j does.
abbrev pub RowStands : Row → ℕ → List ℕ → Type 0
RowStands r j f = (d : ℕ) → d < 8 → byte_at f (row_offset j + d) ≡ byte_at (row_bytes r) d

-- Behind the m rows in a buffer, whichever they are, stand new ones: r in all.
pub record Appended (new : List Row) (buffer buffer' : List ℕ) (m r : ℕ) : Type 0 where
  pub counted : r ≡ m + length new
  pub stands : (rows : List Row) → m ≡ length rows → RowsStand rows buffer → RowsStand (rows ++ new) buffer'
