-- The netlists that can be compacted.
-- Assumes nothing.
use Rattle.std.specs.Prelude.{ℕ, ◌<◌, List, length}
use Rattle.netlist.specs.Rows.{Row, encode_row, row_at, fanin_nodes}
use Rattle.netlist.specs.WellFormed.{FieldsFit, EachRow, EachBelow}

-- Each field has 16 bits, and each row names rows of the netlist.
pub record Compactable (rs : List Row) : Type 0 where
  pub fits : EachRow (λ r. FieldsFit (encode_row r)) rs
  pub inside : (j : ℕ) → j < length rs → EachBelow (length rs) (fanin_nodes (row_at rs j))
