use Rattle.reference_writing.proofs.cone.+reach.Given as goal

abbrev pub decreases-reach : goal.decreases-reach
decreases-reach l = l.depth
