use Rattle.std.proofs.Common.{ℕ, sym}
use Rattle.std.proofs.Math.ListN.{length-replicate}
use Rattle.trial_tally.proofs.rooms.text_zeros.Goals as goal

pub returns : goal.returns
returns c = sym (length-replicate {A = ℕ} 655360 0)
