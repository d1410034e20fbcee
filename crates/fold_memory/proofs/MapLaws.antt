-- The areas of Fold's work memory that are in use at one time stand apart.
-- Assumes nothing.
use mathlib.Core.Path.{refl}
use native.Mathlib.Omega.{arith}
use Rattle.fold_memory.specs.WorkMap.{MapRight}

pub map-right : MapRight
map-right = record { lasso = omega arith; images = omega arith; slots = omega arith; entries = refl; known = refl }
