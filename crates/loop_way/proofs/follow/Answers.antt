use Rattle.loop_way.proofs.WayLaws.{no_way, walk-starts, walks-on, way-closed}
use borrow.Author.Rules.{rules}
use Rattle.loop_way.proofs.follow.Goals as goal

pub loop-index-init : goal.loop-index-init
loop-index-init c = search (walk-starts, rules)

pub returns-then-next-eq0 : goal.returns-then-next-eq0
returns-then-next-eq0 c = search no_way

pub returns-then-slot_at-opened : goal.returns-then-slot_at-opened
returns-then-slot_at-opened c = search way-closed

pub loop-index-preserved : goal.loop-index-preserved
loop-index-preserved c = (search rules, search walks-on)

pub returns : goal.returns
returns c = search no_way
