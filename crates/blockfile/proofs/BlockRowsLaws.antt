-- The walk over a file's blocks, and over the rows of each: block after block covers all rows, and row i of a block stands 8 bytes behind the one before it.
-- Assumes nothing.
use Prim.Native.Nat.{ℕ, ◌+◌, ◌-◌, ◌*◌, ◌<◌, ◌≤◌, ◌%◌}
use mathlib.Core.Path.{◌≡◌}
use native.Mathlib.Omega.{arith}
use Rattle.netlist.specs.FileFormat.{row_offset}
use Rattle.blockfile.specs.BlockRows.{BlockStart, BlockRows}

-- ---- block by block: the whole blocks, then the rest

pub start_first : BlockStart 0 4
start_first = record { starts = omega arith; offset = omega arith }

module _ {start first : ℕ} (S : BlockStart start first) where
  pub start-next : BlockStart (start + 63) (first + 512)
  start-next = record { starts = omega (arith, S.starts); offset = omega (arith, S.starts, S.offset) }

  -- Of n rows, n - n % 63 stand in whole blocks.
  module _ (n : ℕ) where
    pub whole-more : start < n - n % 63 → start + 63 ≤ n - n % 63
    whole-more less = omega (arith, S.starts)

    pub block-whole : start < n - n % 63 → BlockRows n start (start + 63) first
    block-whole less = record { block = S; from = omega arith; few = omega arith; within = omega (arith, whole-more less) }

    pub block-rest : start ≤ n - n % 63 → n - n % 63 ≤ start → BlockRows n start n first
    block-rest from last = record { block = S; from = omega arith; few = omega arith; within = omega arith }

    pub first-most : start ≤ n → first ≤ 16 * n + 4
    first-most from = omega (arith, S.offset)

-- ---- the rows of a block

-- The walk over rows start to stop - 1 of a block, which stand from `first` on, has come to row i and byte `offset`.
pub record RowsWalked (start stop first i offset : ℕ) : Type 0 where
  pub from : start ≤ i
  pub upto : i ≤ stop
  pub offset-is : offset ≡ first + 8 * (i - start)

module _ {n start stop first : ℕ} (B : BlockRows n start stop first) where
  pub walk_none : RowsWalked start stop first start first
  walk_none = record { from = omega arith; upto = B.from; offset-is = omega arith }

  module _ {i offset : ℕ} (W : RowsWalked start stop first i offset) where
    pub walk-within : i < stop → i < n
    walk-within less = omega (arith, B.within)

    pub walk-offset : i < stop → offset ≡ row_offset i
    walk-offset less = omega (arith, W.from, W.offset-is, B.block.starts, B.few, B.block.offset)

    pub walk-small : offset ≤ 16 * n + 4
    walk-small = omega (arith, W.from, W.upto, W.offset-is, B.within, B.block.offset)

module _ {start stop first i offset : ℕ} (W : RowsWalked start stop first i offset) where
  pub walk_more : i < stop → RowsWalked start stop first (i + 1) (offset + 8)
  walk_more less = record { from = omega (arith, W.from); upto = omega arith; offset-is = omega (arith, W.from, W.offset-is) }

  pub walk-all : stop ≤ i → i ≡ stop
  walk-all last = omega (arith, W.upto)
