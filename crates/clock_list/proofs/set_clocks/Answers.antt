-- Entry `index` is set from the packed one.
-- Assumes nothing.
use Rattle.std.proofs.Common.{arith}
use Rattle.clock_list.proofs.ListedLaws.{listed_more}
use Rattle.clock_list.proofs.set_clocks.Goals as goal

pub loop-index-preserved : goal.loop-index-preserved
loop-index-preserved c =
    let next = listed_more c.args.work.now c.args.clocks.now c.loop-index.index (omega arith) in
    rw (c.set_clock.ensures, c.entry_at.ensures, c.loop-index.invariant) next
