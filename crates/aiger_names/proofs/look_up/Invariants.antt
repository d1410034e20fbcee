-- `look_up` meets its contract. The loop's invariant: the lines before `line` are looked up, and it begins at `at`.
-- Assumes nothing.
use Rattle.aiger_names.proofs.LookLaws.{LookTo}
use Rattle.aiger_names.proofs.look_up.Given as goal

abbrev pub invariant-loop-line : goal.invariant-loop-line
invariant-loop-line l = LookTo l.text l.fits l.base l.window l.initial.work l.work l.line l.at l.found
