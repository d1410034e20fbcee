-- The number of a block check's answer: the question answered with no, or 0.
-- Assumes nothing.
use Rattle.std.specs.Prelude.{ℕ, Result, Ok, Err}
use Rattle.blocks.specs.declared.BlockRefusal.{BlockRefusal}
use Rattle.blocks.specs.declared.BlockRefusal.TheVariants.{Sum, Header, RowCount, Unused}

abbrev pub question_of : BlockRefusal → ℕ
question_of Sum = 2
question_of Header = 3
question_of RowCount = 4
question_of Unused = 5

abbrev pub block_number : Result Unit BlockRefusal → ℕ
block_number (Ok _) = 0
block_number (Err refusal) = question_of refusal
