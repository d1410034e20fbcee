use Rattle.gate_loops.proofs.SettleLaws.{walk-starts, walk_ends, walk-goes-back, back-less, walk-goes-on, next-less, walk-meets-loop}
use Rattle.gate_loops.proofs.settle.Goals as goal

pub walk-init : goal.walk-init
walk-init c = search walk-starts

pub returns-then-slot-eq1-clause-walked : goal.returns-then-slot-eq1-clause-walked
returns-then-slot-eq1-clause-walked c = λ _. search walk_ends

pub walk-smaller-then-next-eq0 : goal.walk-smaller-then-next-eq0
walk-smaller-then-next-eq0 c = search back-less

pub walk-preserved-then-next-eq0 : goal.walk-preserved-then-next-eq0
walk-preserved-then-next-eq0 c = search walk-goes-back

pub walk-smaller : goal.walk-smaller
walk-smaller c = search next-less

pub walk-preserved : goal.walk-preserved
walk-preserved c = search walk-goes-on

pub returns-else-slot_at-eq0-clause-not_grounded : goal.returns-else-slot_at-eq0-clause-not_grounded
returns-else-slot_at-eq0-clause-not_grounded c = λ _. search walk-meets-loop
