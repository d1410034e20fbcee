-- `show::show` shows the part of an accepted block, and says the refusal otherwise.
-- Assumes nothing.
use Prim.Native.Nat.{◌+◌, ◌-◌, ◌*◌}
use native.Mathlib.Omega.{arith}
use Rattle.show.proofs.ShowLaws.{block-shown, block-missing, file-refused}
use Rattle.show.proofs.show.Goals as goal

pub returns-then-index-blocks : goal.returns-then-index-blocks
returns-then-index-blocks c = block-shown c.args.file.now c.args.file.ref_ptr c.args.block c.accept.result c.accept.ensures (512 * c.args.block + 4 + 504 - (512 * c.args.block + 4)) (omega arith) c.in-Ok.field-0 c.in-Ok.is c.if-index-blocks.true

pub returns-else-index-blocks : goal.returns-else-index-blocks
returns-else-index-blocks c = search block-missing

pub returns-in-Err : goal.returns-in-Err
returns-in-Err c = search file-refused
