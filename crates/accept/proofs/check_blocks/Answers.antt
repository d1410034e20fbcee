use Rattle.std.proofs.Common.{arith, rules}
use Rattle.accept.proofs.RefusalLaws.{blocks_end, blocks-stop, blocks-again}
use Rattle.accept.proofs.check_blocks.Goals as goal

pub returns-in-Err : goal.returns-in-Err
returns-in-Err c = search blocks-stop

pub loop-number-preserved : goal.loop-number-preserved
loop-number-preserved c = search (blocks-again, rules)

pub returns : goal.returns
returns c = blocks_end _ _ c.requires.0 _ (omega arith) c.loop-number.invariant
