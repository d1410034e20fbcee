-- The steps of the loop, by the laws of numbering.
-- Assumes nothing.
use borrow.Author.Rules.{rules}
use Rattle.compaction.proofs.NumberLaws.{numbering-none, numbering-fits, numbering-more}
use Rattle.compaction.proofs.number_rows.Goals as goal

pub loop-row-init : goal.loop-row-init
loop-row-init c = search numbering-none

pub number_row-number-requires : goal.number_row-number-requires
number_row-number-requires c = (search rules, search numbering-fits)

pub loop-row-preserved : goal.loop-row-preserved
loop-row-preserved c = search numbering-more
