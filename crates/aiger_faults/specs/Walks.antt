-- The tree of names that a walk over the lines fills and asks.
-- Interface: TreeInside.
-- Assumes nothing.
use Rattle.std.specs.Prelude.{ℕ, ◌≤◌, List, length}
use Rattle.name_tree.specs.Trees.{Tree}

-- Work has room for a full tree, and n names are in it.
pub record TreeInside (w : List ℕ) (n : ℕ) : Type 0 where
  pub room : 49152 ≤ length w
  pub tree : Tree w 0 n
