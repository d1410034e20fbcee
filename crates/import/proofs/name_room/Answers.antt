-- `name_room` meets its contract: an array of one byte repeated has its length by a law, so that nothing counts its bytes.
-- Assumes nothing.
use Prim.Native.Nat.{ℕ}
use mathlib.Core.Path.{sym}
use lib.ListN.{length-replicate}
use Rattle.aiger_names.specs.Names.{name_bytes}
use Rattle.import.proofs.name_room.Goals as goal

pub returns : goal.returns
returns c = sym (length-replicate {A = ℕ} name_bytes 0)
