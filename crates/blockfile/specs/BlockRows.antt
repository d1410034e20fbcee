-- The rows of a file block by block: where a block's first row stands, and which rows are the block's.
-- Interface: BlockStart, BlockRows.
-- Assumes nothing.
use Rattle.std.specs.Prelude.{ℕ, ◌+◌, ◌≤◌, ◌%◌, ◌≡◌}
use Rattle.netlist.specs.FileFormat.{row_offset}

-- Row `start` is the first of a block, and stands at byte `first`.
pub record BlockStart (start first : ℕ) : Type 0 where
  pub starts : start % 63 ≡ 0
  pub offset : first ≡ row_offset start

-- Of n rows, rows start to stop - 1 stand in one block, from byte `first` on.
pub record BlockRows (n start stop first : ℕ) : Type 0 where
  pub block : BlockStart start first
  pub from : start ≤ stop
  pub few : stop ≤ start + 63
  pub within : stop ≤ n
