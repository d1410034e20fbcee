-- `xor_code` meets its contract: the table of XOR agrees with `xor3`, by one test over its nine entries.
-- Assumes nothing.
use mathlib.Core.Path.{refl}
use native.Mathlib.Omega.{arith}
use Rattle.ternary.specs.Ternary.{xor3}
use Rattle.ternary.proofs.Tables.{agrees-pair}
use Rattle.ternary.proofs.xor_code.Goals as goal

pub returns : goal.returns
unfolding xor3
returns c = agrees-pair xor3 _ refl c.args.a c.args.b (omega arith) (omega arith)
