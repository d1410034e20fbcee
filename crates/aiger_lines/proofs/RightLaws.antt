-- A line that was read has three numbers at most.
-- Assumes nothing.
use Prim.Native.Nat.{ℕ, ◌≤◌}
use mathlib.Core.List.{List, [], ◌∷◌}
use native.Mathlib.Omega.{arith}
use lib.ListN.{length-take}
use Rattle.aiger_lines.specs.declared.Line.{Line}
use Rattle.aiger_lines.specs.Lines.{Padded}

pub padded-few : (text : List ℕ) (x : Line) → Padded text x → x.count ≤ 3
padded-few text x pad = rw (pad.count, length-take x.count (x.first ∷ x.second ∷ x.third ∷ [])) (omega arith)
