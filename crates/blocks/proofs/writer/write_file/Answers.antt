use Rattle.std.proofs.Common.{arith, length-drop, length-take, rules}
use Rattle.blocks.proofs.WriterLaws.{blocks-none, blocks_more, file-written}
use Rattle.blocks.proofs.writer.write_file.Goals as goal

pub loop-number-init : goal.loop-number-init
loop-number-init c = search (blocks-none, rules)

pub write_block-requires : goal.write_block-requires
write_block-requires c = (simp (length-take, length-drop) (omega arith), (omega arith, (omega arith, omega arith)))

pub loop-number-preserved : goal.loop-number-preserved
loop-number-preserved c = (search rules, search blocks_more)

pub returns : goal.returns
returns c = search file-written
