-- `slot_room` meets its contract: an array of one byte repeated has its length by a law, so that nothing counts its bytes.
-- Assumes nothing.
use Prim.Native.Nat.{ℕ}
use mathlib.Core.Path.{sym}
use lib.ListN.{length-replicate}
use Rattle.loop_way.proofs.slot_room.Goals as goal

pub returns : goal.returns
returns c = sym (length-replicate {A = ℕ} 65536 0)
