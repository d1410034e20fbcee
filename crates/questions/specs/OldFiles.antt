-- Every file of at most 65,536 bytes is the netlist that it was while a block's number was byte 1 alone, byte 3 was 0, and a file had at most 128 blocks.
-- What was asked and written then, for this one statement; how rows are read, `netlist_of`, knows no block number.
-- Interface: OldFiles.
-- Assumes nothing.
use Rattle.std.specs.Prelude.{ℕ, ◌-◌, ◌*◌, ◌≤◌, ◌%◌, ◌≡◌, Bool, cond, not, ◌&&◌, List, [], ◌∷◌, ◌++◌, length, replicate, eqb, leb}
use Rattle.memory.specs.Lists.{join_below}
use Rattle.memory.specs.Fields.{byte_at, u32_bytes}
use Rattle.netlist.specs.Limits.{row_work_bytes}
use Rattle.netlist.specs.Rows.{Row, row_at}
use Rattle.netlist.specs.FileFormat.{last_mark, block_count, block_at, fields_of, netlist_of, row_bytes, check_word, block_rows, blocks_for, file_of}
use Rattle.questions.specs.Questions.{Refusal, no_refusal, first_refusal, question, item_questions, sum_right, count_right, unused_right, rows_refusal, file_refusal_with}
use Rattle.questions.specs.RoundTrips.{Writable}

-- Questions 1 and 3, and the questions of a file with these two.
abbrev pub old_length_right : List ℕ → Bool
old_length_right f = eqb (length f % 512) 0 && leb 512 (length f) && leb (length f) 65536

abbrev pub old_head_right : ℕ → ℕ → List ℕ → Bool
old_head_right k B b = eqb (byte_at b 0) (last_mark k B) && eqb (byte_at b 1) B && eqb (byte_at b 3) 0

unfoldable pub old_block_questions : ℕ → ℕ → List ℕ → ℕ
old_block_questions k B b = cond (not (sum_right b)) 2 (cond (not (old_head_right k B b)) 3 (cond (not (count_right k B b)) 4 (cond (not (unused_right b)) 5 0)))

unfoldable pub old_refusal_with : (List Row → ℕ → ℕ → Bool) → List ℕ → Refusal
old_refusal_with operand f = first_refusal (question 1 (old_length_right f) ∷ item_questions (block_count f) (λ B. old_block_questions (block_count f) B (block_at f B)) ∷ rows_refusal operand (fields_of f) ∷ [])

-- The file of these rows.
unfoldable pub old_block_body : ℕ → ℕ → List Row → List ℕ
old_block_body k B rs = last_mark k B ∷ B ∷ length rs ∷ 0 ∷ join_below (length rs) (λ i. row_bytes (row_at rs i)) ++ replicate (504 - 8 * length rs) 0

unfoldable pub old_file_of : List Row → List ℕ
old_file_of rs =
    let k = blocks_for (length rs) in
    join_below k (λ B. let body = old_block_body k B (block_rows rs B) in body ++ u32_bytes (check_word body))

pub record OldFiles : Type 0 where
  -- It is accepted, or refused with the number and the place, as it was, whatever a gate's operands may name: by Check's rule and by Sort's.
  pub asked-alike : (operand : List Row → ℕ → ℕ → Bool) (file : List ℕ) → length file ≤ 65536 → file_refusal_with operand file ≡ old_refusal_with operand file
  -- The file of a netlist is, byte for byte, the one that was written of it, and is read as its rows.
  pub written-alike : (rows : List Row) → length rows ≤ 8064 → file_of rows ≡ old_file_of rows
  pub read_alike : (rows : List Row) → length rows ≤ 8064 → Writable rows → netlist_of (old_file_of rows) ≡ rows
  -- Run and Sort ask for the work that they asked for.
  pub work-alike : (operand : List Row → ℕ → ℕ → Bool) (file : List ℕ) → length file ≤ 65536 → file_refusal_with operand file ≡ no_refusal → row_work_bytes (length (netlist_of file)) ≡ 16384
