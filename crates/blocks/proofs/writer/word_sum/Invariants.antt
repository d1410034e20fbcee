-- `writer::word_sum` meets its contract. The loop's invariant: `sum` is the sum of the first `i` words modulo 2 ^ 32.
-- Assumes nothing.
use Rattle.std.proofs.Common.{◌≡◌, ◌%◌, ◌^◌}
use Rattle.netlist.specs.FileFormat.{word_sum}
use Rattle.blocks.proofs.writer.word_sum.Given as goal

abbrev pub invariant-loop-i : goal.invariant-loop-i
invariant-loop-i l = l.sum ≡ word_sum l.bytes l.i % 2 ^ 32
