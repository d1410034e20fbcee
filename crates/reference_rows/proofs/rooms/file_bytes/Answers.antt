use Rattle.std.proofs.Common.{ℕ, sym}
use Rattle.std.proofs.Math.ListN.{length-replicate}
use Rattle.reference_rows.proofs.rooms.file_bytes.Goals as goal

pub returns : goal.returns
returns c = sym (length-replicate {A = ℕ} 262144 0)
