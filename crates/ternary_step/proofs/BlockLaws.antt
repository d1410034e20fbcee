-- The walk over the rows of a block in a step, and over the blocks: what each row asks, and what stands after one row more.
-- Assumes nothing.
use Prim.Native.Nat.{ℕ, ◌+◌, ◌*◌, ◌<◌, ◌≤◌, ◌/◌, ◌^◌}
use mathlib.Core.Path.{◌≡◌, ap, ◌∙◌, subst}
use mathlib.Core.List.{List}
use native.Mathlib.Omega.{arith}
use Rattle.memory.proofs.FrameLaws.{kept-none, kept-join}
use Rattle.netlist.specs.Limits.{most_original_rows}
use Rattle.netlist.specs.FileFormat.{netlist_of}
use Rattle.netlist.specs.WellFormed.{FoldableRows}
use Rattle.blockfile.specs.BlockRows.{BlockRows}
use Rattle.blockfile.specs.Ready.{Ready}
use Rattle.blockfile.proofs.BlockRowsLaws.{RowsWalked, walk_none, walk-within, walk-small, walk_more, walk-all}
use Rattle.fold_memory.specs.WorkMap.{value_offset}
use Rattle.ternary_step.specs.StateMap.{registers_before, AtRow, Evaluated}
use Rattle.ternary_step.proofs.StepLaws.{ValuesKept}

-- Values changed, and changed again.
kept-twice : (u v w : List ℕ) → ValuesKept u v → ValuesKept v w → ValuesKept u w
kept-twice u v w K L = kept-join (value_offset 0) (value_offset most_original_rows) u v w K L (omega arith) (omega arith) (omega arith) (omega arith)

-- The walk over rows start to stop - 1 of a block, which stand from `first` on, has come to row i in step t: memory was v and is w, and j registers stand before the row.
pub record Walked (f : List ℕ) (start stop first t : ℕ) (v w : List ℕ) (i offset j : ℕ) : Type 0 where
  pub rows : RowsWalked start stop first i offset
  pub number : j ≡ registers_before (netlist_of f) i
  pub kept : ValuesKept v w
  pub values : Evaluated (netlist_of f) w t i

module _ {f : List ℕ} {n start stop first t : ℕ} {v : List ℕ} (R : Ready FoldableRows f n) (B : BlockRows n start stop first) where
  pub walked_none : {j : ℕ} → j ≡ registers_before (netlist_of f) start → Evaluated (netlist_of f) v t start → Walked f start stop first t v v start first j
  walked_none {j} number E = record { rows = walk_none B; number = number; kept = kept-none (value_offset 0) (value_offset most_original_rows) v; values = E }

  module _ {w : List ℕ} {i offset j : ℕ} (U : Walked f start stop first t v w i offset j) where
    pub walked-small : offset + 8 < 2 ^ 64
    walked-small = omega (arith, walk-small B U.rows, R.file.few)

    module _ (less : i < stop) where
      pub walked_row : AtRow f n i j
      walked_row = record { ready = R; within = walk-within B U.rows less; number = U.number }

      -- One row more.
      pub walked_more : {w' : List ℕ} {j' : ℕ} → j' ≡ registers_before (netlist_of f) (i + 1) → ValuesKept w w' → Evaluated (netlist_of f) w' t (i + 1) → Walked f start stop first t v w' (i + 1) (offset + 8) j'
      walked_more {w'} number K E = record { rows = walk_more U.rows less; number = number; kept = kept-twice v w w' U.kept K; values = E }

    -- All rows of the block.
    module _ (last : stop ≤ i) where
      pub walked-values : Evaluated (netlist_of f) w t stop
      walked-values = subst (Evaluated (netlist_of f) w t) (walk-all U.rows last) U.values

-- ---- block by block

-- The walk over the blocks of a file has come to block k: memory was v and is w, and j registers stand before the block.
pub record BlocksWalked (f : List ℕ) (t : ℕ) (v w : List ℕ) (k j : ℕ) : Type 0 where
  pub number : j ≡ registers_before (netlist_of f) (63 * k)
  pub kept : ValuesKept v w
  pub values : Evaluated (netlist_of f) w t (63 * k)

-- The rows of a whole block, and those of the rest.
pub block-rows : (n k : ℕ) → k < n / 63 → BlockRows n (63 * k) (63 * k + 63) (4 + 512 * k)
block-rows n k less = record {
  block = record { starts = omega arith; offset = omega arith };
  from = omega arith;
  few = omega arith;
  within = omega arith;
}

pub rest-rows : (n : ℕ) → BlockRows n (63 * (n / 63)) n (4 + 512 * (n / 63))
rest-rows n = record {
  block = record { starts = omega arith; offset = omega arith };
  from = omega arith;
  few = omega arith;
  within = omega arith;
}

module _ {f : List ℕ} {t : ℕ} {v : List ℕ} where
  pub blocks-none : {j : ℕ} → j ≡ registers_before (netlist_of f) 0 → Evaluated (netlist_of f) v t 0 → BlocksWalked f t v v 0 j
  blocks-none number E = record { number = number; kept = kept-none (value_offset 0) (value_offset most_original_rows) v; values = E }

  module _ {w : List ℕ} {k j : ℕ} (U : BlocksWalked f t v w k j) where
    -- One block more.
    pub blocks_more : {w' : List ℕ} {j' : ℕ} → j' ≡ registers_before (netlist_of f) (63 * k + 63) → ValuesKept w w' → Evaluated (netlist_of f) w' t (63 * k + 63) → BlocksWalked f t v w' (k + 1) j'
    blocks_more {w'} number K E =
        let next : 63 * k + 63 ≡ 63 * (k + 1) = omega arith in
        record {
          number = number ∙ ap (registers_before (netlist_of f)) next;
          kept = kept-twice v w w' U.kept K;
          values = subst (Evaluated (netlist_of f) w' t) next E;
        }
