-- `writer::write_file` meets its contract. The loop's invariant: the first `number` blocks are the file's, all else is as it was.
-- Assumes nothing.
use Rattle.std.proofs.Common.{◌≡◌, length}
use Rattle.blocks.proofs.WriterLaws.{BlocksWritten}
use Rattle.blocks.proofs.writer.write_file.Given as goal

abbrev pub invariant-loop-number : goal.invariant-loop-number
invariant-loop-number l = (length l.res ≡ length l.initial.res) × BlocksWritten l.initial.res l.rows l.number l.res
