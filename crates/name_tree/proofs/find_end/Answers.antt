use Rattle.name_tree.proofs.TreeLaws.{way-start, way_step, way-missed, step-later}
use Rattle.name_tree.proofs.find_end.Goals as goal

pub loop-base-init : goal.loop-base-init
loop-base-init c = search way-start

pub returns-then-next-eq0 : goal.returns-then-next-eq0
returns-then-next-eq0 c = search way-missed

pub loop-base-smaller : goal.loop-base-smaller
loop-base-smaller c = search step-later

pub loop-base-preserved : goal.loop-base-preserved
loop-base-preserved c = search way_step
