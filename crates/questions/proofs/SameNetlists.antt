-- Every old file is the same netlist: it has block numbers below 256, whose high byte is 0.
-- Assumes nothing.
use Prim.Native.Nat.{ℕ, ◌<◌, ◌≤◌, ◌^◌}
use mathlib.Core.Path.{◌≡◌, refl, ap, sym, ◌∙◌}
use mathlib.Core.Bool.{Bool, true, false, cond}
use mathlib.Core.List.{List, ◌++◌}
use native.Mathlib.Omega.{arith}
use lib.ListN.{length}
use lib.Dec.{ltb}
use borrow.Author.Tests.{ltb-true, le-leb}
use Rattle.memory.specs.Lists.{first_from}
use Rattle.memory.specs.Fields.{u32_bytes}
use Rattle.memory.proofs.ListLaws.{join-cong, first_cong}
use Rattle.netlist.specs.Limits.{most_file_bytes, small_file_rows}
use Rattle.netlist.specs.Rows.{Row}
use Rattle.netlist.specs.FileFormat.{low_byte, high_byte, block_count, block_at, block_body, block_bytes, block_rows, blocks_for, check_word, netlist_of, file_of}
use Rattle.questions.specs.Questions.{no_refusal, item_questions, length_right, head_right, block_questions, file_refusal_with}
use Rattle.questions.specs.OldFiles.{old_length_right, old_head_right, old_block_questions, old_refusal_with, old_block_body, old_file_of, OldFiles}
use Rattle.questions.proofs.AcceptedFiles.{Operand, file-right, rows-of-file}
use Rattle.questions.proofs.WriteThenRead.{writable-read}

-- Questions of items that agree refuse alike.
items-cong : (n : ℕ) (f g : ℕ → ℕ) → ((j : ℕ) → j < n → f j ≡ g j) → item_questions n f ≡ item_questions n g
items-cong n f g h =
    let e : first_from 0 n (λ i. ltb 0 (f i)) ≡ b = first_cong 0 n (λ i. ltb 0 (f i)) (λ i. ltb 0 (g i)) (λ j l. ap (ltb 0) (h j (omega arith))) in
    rw e (go (ltb b n) refl)
  where
    b : ℕ
    b = first_from 0 n (λ i. ltb 0 (g i))

    go : (t : Bool) → ltb b n ≡ t → cond t (record { number = f b; place = b }) no_refusal ≡ cond t (record { number = g b; place = b }) no_refusal
    go true q = rw (h b (ltb-true b n q))
    go false q = refl

module _ (B : ℕ) (few : B < 2 ^ 8) where
  low-is : low_byte B ≡ B
  low-is = omega arith

  high_is : high_byte B ≡ 0
  high_is = omega arith

  head-alike : (k : ℕ) (b : List ℕ) → head_right k B b ≡ old_head_right k B b
  head-alike k b = rw (low-is, high_is)

  block-alike : (k : ℕ) (b : List ℕ) → block_questions k B b ≡ old_block_questions k B b
  unfolding block_questions old_block_questions
  block-alike k b = rw (head-alike k b)

  body_alike : (k : ℕ) (rs : List Row) → block_body k B rs ≡ old_block_body k B rs
  unfolding block_body old_block_body
  body_alike k rs = rw (low-is, high_is)

  bytes-alike : (k : ℕ) (rs : List Row) → block_bytes k B rs ≡ old_block_body k B rs ++ u32_bytes (check_word (old_block_body k B rs))
  unfolding block_bytes
  bytes-alike k rs = rw (body_alike k rs)

length-alike : (f : List ℕ) → length f ≤ 65536 → length_right f ≡ old_length_right f
length-alike f h = rw (le-leb (length f) most_file_bytes (omega arith), le-leb (length f) 65536 h)

file-alike : (rows : List Row) → length rows ≤ small_file_rows → file_of rows ≡ old_file_of rows
unfolding file_of old_file_of
file-alike rows few =
    let k = blocks_for (length rows) in
    join-cong k _ _ (λ B l. bytes-alike B (omega arith) k (block_rows rows B))

few-rows : (operand : Operand) (file : List ℕ) → length file ≤ 65536 → file_refusal_with operand file ≡ no_refusal → length (netlist_of file) ≤ small_file_rows
few-rows operand file h q =
    let R = rows-of-file operand file (file-right operand file (rw q)) in
    omega (arith, h, R.2)

pub old-files : OldFiles
unfolding file_refusal_with old_refusal_with
old-files = record {
  asked-alike = λ operand f h.
      rw (length-alike f h, items-cong (block_count f) (λ B. block_questions (block_count f) B (block_at f B)) (λ B. old_block_questions (block_count f) B (block_at f B)) (λ B l. block-alike B (omega arith) (block_count f) (block_at f B)));
  written-alike = file-alike;
  read_alike = λ rows few w. ap netlist_of (sym (file-alike rows few)) ∙ writable-read rows w;
  work-alike = λ operand f h q. rw (le-leb (length (netlist_of f)) small_file_rows (few-rows operand f h q));
}
