-- `evaluate` meets its contract. The loop's invariant: the rows of the blocks so far have their values, and j registers stand in them.
-- Assumes nothing.
use Rattle.ternary_step.proofs.BlockLaws.{BlocksWalked}
use Rattle.ternary_step.proofs.evaluate.Given as goal

abbrev pub invariant-loop-block : goal.invariant-loop-block
invariant-loop-block l = BlocksWalked l.file l.t l.initial.work l.work l.block l.j
