-- `text_room` meets its contract.
-- Assumes nothing.
use Rattle.std.proofs.Common.{ℕ, sym}
use Rattle.std.proofs.Math.ListN.{length-replicate}
use Rattle.pf_files.proofs.importing.text_room.Goals as goal

pub returns : goal.returns
returns c = sym (length-replicate {A = ℕ} 1114112 0)
