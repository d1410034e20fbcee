-- `evaluate` meets its contract. The loop's invariant: the rows of the blocks so far have their values, no other byte is changed, and `used` inputs stand in them.
-- Assumes nothing.
use Rattle.simulate.proofs.WalkLaws.{BlocksWalked}
use Rattle.simulate.proofs.evaluate.Given as goal

abbrev pub invariant-loop-block : goal.invariant-loop-block
invariant-loop-block l = BlocksWalked l.file l.inputs l.step l.initial.work l.work l.block l.used
