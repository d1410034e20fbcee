-- The rows of a file whose blocks are right.
-- Assumes nothing.
use Prim.Native.Nat.{ℕ, ◌+◌, ◌-◌, ◌*◌, ◌≤◌}
use mathlib.Core.Path.{◌≡◌, sym, ap, ◌∙◌}
use mathlib.Core.Bool.{Bool, false, not}
use mathlib.Core.List.{List}
use native.Mathlib.Omega.{arith}
use lib.ListN.{length}
use borrow.Author.Tests.{not-false}
use Rattle.memory.specs.Fields.{byte_at}
use Rattle.netlist.specs.Limits.{most_blocks}
use Rattle.netlist.specs.FileFormat.{block_count, block_at, row_count}
use Rattle.netlist.proofs.FileLaws.{read_length, row-at}
use Rattle.questions.specs.Questions.{length_right}
use Rattle.questions.specs.QuestionWords.{LengthWords}
use Rattle.questions.proofs.QuestionLaws.{number-none, items-none}
use Rattle.questions.proofs.PlainWords.{length_right-iff}
use Rattle.questions.proofs.AcceptedFiles.{block-right, last-count}
use Rattle.blockfile.specs.Ready.{HasRows}
use Rattle.std.specs.Prelude.{Result, Ok}
use Rattle.accept.specs.declared.FileRefusal.{FileRefusal}
use Rattle.accept.specs.Parts.{part_refusal, block_asked, blocks_refusal, BlocksRight}

-- Question 1 was answered with yes.
module _ (f : List ℕ) (b : Bool) (told : b ≡ length_right f) (h : not b ≡ false) where
  words : LengthWords f
  words = (length_right-iff f).0 (sym told ∙ not-false b h)

  pub length_whole : length f ≡ 512 * block_count f
  length_whole = words.whole

  pub blocks-few : block_count f ≤ most_blocks
  blocks-few = words.few-blocks

  -- So were those of the blocks.
  pub blocks-right : (a : Result Unit FileRefusal) → part_refusal a ≡ blocks_refusal f → (u : Unit) → a ≡ Ok u → BlocksRight f
  blocks-right a asked u e =
      let none = number-none (blocks_refusal f) (sym asked ∙ ap part_refusal e) in
      let n = last-count f words (λ B m. block-right (block_count f) B (block_at f B) (items-none (block_count f) (block_asked f) none B m)) in
      record { size = words; last_some = n.0; last-most = n.1 }

-- Its rows, counted by the last block.
rows-counted : (f : List ℕ) → BlocksRight f → HasRows f (row_count f)
rows-counted f B =
    record {
      count = sym (read_length f);
      few = omega (arith, B.size.few-blocks, B.size.some-blocks, B.last-most);
      inside = λ i h. omega (arith, h, B.size.whole, B.size.some-blocks, B.last-most);
      row_is = row-at f;
    }

pub rows-by-last : (f : List ℕ) (rest : ℕ) → BlocksRight f → rest ≡ byte_at f (512 * (block_count f - 1) + 2) → HasRows f (63 * (block_count f - 1) + rest)
rows-by-last f rest B e = rw e (rows-counted f B)
