-- `compact_rows` meets its contract, and of the work memory only the slots change.
-- Assumes nothing.
use borrow.Author.Rules.{rules}
use Rattle.compaction.proofs.NumberLaws.{slots-outside}
use Rattle.compaction.proofs.MoveLaws.{compact-count, compact-stands}
use Rattle.compaction.proofs.compact_rows.Goals as goal

pub returns : goal.returns
returns c = search (compact-count, compact-stands, slots-outside, rules)
