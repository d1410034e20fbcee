-- `find_reached` meets its contract. The loop's invariant: what the visited rows name is marked, and every marked row is in the cone.
-- Assumes nothing.
use Prim.Native.Nat.{◌-◌}
use mathlib.Core.Path.{◌≡◌}
use lib.ListN.{length}
use Rattle.cone_search.proofs.ConeSearch.{Reaching}
use Rattle.cone_search.proofs.find_reached.Given as goal

abbrev pub invariant-visits : goal.invariant-visits
invariant-visits l = (length l.slots ≡ length l.initial.slots) × Reaching l.res l.rows l.slots l.visited l.found

abbrev pub decreases-visits : goal.decreases-visits
decreases-visits l = l.rows - l.visited
