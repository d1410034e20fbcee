-- What a refusal of Check, of a file for Sort, of Run and Show means: it is the first no of what is asked.
-- Assumes nothing.
use Prim.Native.Nat.{ℕ}
use mathlib.Core.Path.{◌≡◌}
use mathlib.Core.Logic.{◌↔◌}
use mathlib.Core.Bool.{true}
use mathlib.Core.List.{List, map}
use lib.ListN.{length}
use Rattle.memory.proofs.TestLaws.{leb-iff, ltb_iff, and-iff}
use Rattle.netlist.specs.Limits.{most_steps}
use Rattle.netlist.specs.Rows.{Row, RowFields, decode_row, row_at}
use Rattle.netlist.specs.FileFormat.{block_count, block_at, fields_of, netlist_of}
use Rattle.questions.specs.Questions.{item_questions, block_questions, names_earlier, names_anywhere, literals_right, row_questions, rows_refusal, file_refusal_with, file_refusal, unordered_refusal, run_refusal, show_refusal}
use Rattle.questions.specs.QuestionWords.{KindWords, LiteralWords, UnorderedWords}
use Rattle.questions.specs.RefusalWords.{NinthWords, RefusalMeans, asked_of_block, asked_of_blocks, asked_of_row, asked_of_rows, asked_with, asked_of_file, asked_of_unordered, asked_by_run, asked_by_show}
use Rattle.questions.proofs.PlainWords.{length_right-iff, sum_right-iff, head_right-iff, count_right-iff, unused_right-iff, kind_right-iff, fields_right-iff, label_is_new-iff, literal_words-iff, unordered_words-iff, some_output-iff, value_lists_right-iff, all_binary-iff, run_memory_right-iff}
use Rattle.questions.proofs.AcceptedFiles.{Operand}
use Rattle.questions.proofs.AskedLaws.{ItemMeans, once-means, none-means, test-means, items-means, then-means, last-means}

block-means : (k B : ℕ) (b : List ℕ) → ItemMeans (block_questions k B b) B (asked_of_block k B b)
unfolding block_questions
block-means k B b =
    test-means 1 B (sum_right-iff k B b) (λ _.
    test-means 2 B (head_right-iff k B b) (λ _.
    test-means 3 B (count_right-iff k B b) (λ _.
    test-means 4 B (unused_right-iff k B b) (λ _. none-means B))))

blocks-means : (f : List ℕ) → RefusalMeans (item_questions (block_count f) (λ B. block_questions (block_count f) B (block_at f B))) (asked_of_blocks f)
unfolding asked_of_blocks
blocks-means f = items-means (block_count f) _ _ (λ B. block-means (block_count f) B (block_at f B))

-- What 9 asks, as a test and in words; 6 is passed.
abbrev NinthMeans : Operand → NinthWords → Type 0
NinthMeans operand ninth = (rows : List Row) (i k : ℕ) → KindWords rows i k → (literals_right operand rows i (row_at rows i) ≡ true) ↔ ninth rows i

module _ (operand : Operand) (ninth : NinthWords) (means : NinthMeans operand ninth) where
  row-means : (ws : List RowFields) (i : ℕ) → ItemMeans (row_questions operand ws i) i (asked_of_row ninth ws i)
  unfolding row_questions
  row-means ws i =
      test-means 5 i (kind_right-iff ws (map decode_row ws) i) (λ K.
      test-means 6 i (fields_right-iff _ _ _ _ _ K.known) (λ _.
      test-means 7 i (label_is_new-iff (map decode_row ws) i) (λ _.
      test-means 8 i (means (map decode_row ws) i _ K) (λ _. none-means i))))

  rows-means : (ws : List RowFields) → RefusalMeans (rows_refusal operand ws) (asked_of_rows ninth ws)
  unfolding rows_refusal asked_of_rows
  rows-means ws =
      then-means (items-means (length ws) _ _ (row-means ws))
      (last-means (once-means 9 (some_output-iff (map decode_row ws))))

  refusal-means-with : (f : List ℕ) → RefusalMeans (file_refusal_with operand f) (asked_with ninth f)
  unfolding file_refusal_with asked_with
  refusal-means-with f =
      then-means (once-means 0 (length_right-iff f))
      (then-means (blocks-means f)
      (last-means (rows-means (fields_of f))))

pub file-refusal-means : (f : List ℕ) → RefusalMeans (file_refusal f) (asked_of_file f)
file-refusal-means f = refusal-means-with names_earlier LiteralWords literal_words-iff f

pub unordered-refusal-means : (f : List ℕ) → RefusalMeans (unordered_refusal f) (asked_of_unordered f)
unordered-refusal-means f = refusal-means-with names_anywhere UnorderedWords (λ rows i k K. unordered_words-iff rows i) f

pub run-refusal-means : (file : List ℕ) (T : ℕ) (choices inputs : List ℕ) (result work : ℕ) → RefusalMeans (run_refusal file T choices inputs result work) (asked_by_run file T choices inputs result work)
unfolding run_refusal asked_by_run
run-refusal-means file T choices inputs result work =
    then-means (file-refusal-means file)
    (then-means (once-means 16 (leb-iff T most_steps))
    (then-means (once-means 17 (value_lists_right-iff (netlist_of file) T choices inputs))
    (then-means (once-means 18 (and-iff _ _ (all_binary-iff choices) (all_binary-iff inputs)))
    (last-means (once-means 19 (run_memory_right-iff (netlist_of file) T result work))))))

pub show-refusal-means : (file : List ℕ) (B : ℕ) → RefusalMeans (show_refusal file B) (asked_by_show file B)
unfolding show_refusal asked_by_show
show-refusal-means file B = then-means (file-refusal-means file) (last-means (once-means 20 (ltb_iff B (block_count file))))
