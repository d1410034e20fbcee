-- `check_blocks` meets its contract. The loop's invariant: questions 2 to 5 of the blocks before `number` are answered with yes.
-- Assumes nothing.
use Rattle.std.proofs.Common.{◌≡◌, ℕ, ◌<◌}
use Rattle.accept.specs.Parts.{block_asked}
use Rattle.accept.proofs.check_blocks.Given as goal

abbrev pub invariant-loop-number : goal.invariant-loop-number
invariant-loop-number l = (B : ℕ) → B < l.number → block_asked l.file B ≡ 0
