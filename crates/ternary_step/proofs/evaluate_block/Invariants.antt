-- `evaluate_block` meets its contract. The loop's invariant: the rows up to row i have their values, row i stands at `offset`, and j registers stand before it.
-- Assumes nothing.
use Rattle.ternary_step.proofs.BlockLaws.{Walked}
use Rattle.ternary_step.proofs.evaluate_block.Given as goal

abbrev pub invariant-loop-i : goal.invariant-loop-i
invariant-loop-i l = Walked l.file l.start l.stop l.first l.t l.initial.work l.work l.i l.offset l.j
