use Rattle.reference_run.proofs.steps.+settle.Given as goal

abbrev pub decreases-settle : goal.decreases-settle
decreases-settle l = l.depth
