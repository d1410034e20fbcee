-- `mux_code` meets its contract: the table of MUX agrees with `mux3`, by one test over its twenty-seven entries.
-- Assumes nothing.
use mathlib.Core.Path.{refl}
use native.Mathlib.Omega.{arith}
use Rattle.ternary.specs.Ternary.{mux3}
use Rattle.ternary.proofs.Tables.{agrees-triple}
use Rattle.ternary.proofs.mux_code.Goals as goal

pub returns : goal.returns
unfolding mux3
returns c = agrees-triple mux3 _ refl c.args.s c.args.b c.args.c (omega arith) (omega arith) (omega arith)
