-- What code that goes through the rows of a file asks of it.
-- Interface: HasRows, of a file whose blocks are right; Ready, of one that is accepted, with what is known of its rows.
-- Assumes nothing.
use Rattle.std.specs.Prelude.{ℕ, ◌+◌, ◌<◌, ◌≤◌, ◌≡◌, List, length}
use Rattle.netlist.specs.Limits.{most_rows}
use Rattle.netlist.specs.Rows.{Row, decode_row, row_at}
use Rattle.netlist.specs.FileFormat.{row_offset, read_fields, netlist_of}

-- The file has n rows: each stands in it, and is what its eight bytes say.
pub record HasRows (f : List ℕ) (n : ℕ) : Type 0 where
  pub count : n ≡ length (netlist_of f)
  pub few : n ≤ most_rows
  pub inside : (i : ℕ) → i < n → row_offset i + 8 ≤ length f
  pub row_is : (i : ℕ) → i < n → row_at (netlist_of f) i ≡ decode_row (read_fields f i)

-- Their kinds are 0 to 6, and P holds of them: CheckedRows in a file that Check accepts, FoldableRows in one that Fold takes.
pub record Ready (P : List Row → Type 0) (f : List ℕ) (n : ℕ) : Type 0 where
  pub file : HasRows f n
  pub known : (i : ℕ) → i < n → (read_fields f i).kind ≤ 6
  pub rows : P (netlist_of f)
