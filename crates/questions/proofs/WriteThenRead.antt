-- A netlist written and read again is the same netlist, and its file is accepted.
-- Assumes nothing.
use Prim.Native.Nat.{ℕ, suc, ◌+◌, ◌*◌, ◌<◌, ◌≤◌, ◌^◌}
use mathlib.Core.Path.{◌≡◌, ap, ◌∙◌}
use mathlib.Core.List.{List, map}
use native.Mathlib.Omega.{arith}
use native.Mathlib.Decide.{dec_lt}
use lib.ListN.{length}
use Rattle.memory.specs.Fields.{IsBytes, byte_at}
use Rattle.netlist.specs.Limits.{most_rows}
use Rattle.netlist.specs.Rows.{Row, constant, input, register, and_gate, xor_gate, mux_gate, output, encode_row, row_at}
use Rattle.netlist.specs.FileFormat.{block_count, block_at, block_rows, blocks_for, fields_of, netlist_of, file_of}
use Rattle.netlist.proofs.RowLaws.{decode-rows}
use Rattle.netlist.specs.WellFormed.{EachRow, ResetIn, FieldsFit, CheckedRows}
use Rattle.netlist.proofs.FileLaws.{written_block, block-head, block-unused, block-sum, part_small, part_length, file-length, file-blocks, block_back, fields_back, read_back, file-is-bytes, row_fits}
use Rattle.questions.specs.Questions.{no_refusal, names_earlier, file_refusal}
use Rattle.questions.specs.QuestionWords.{LengthWords}
use Rattle.questions.proofs.PlainWords.{BlockWords}
use Rattle.questions.proofs.AcceptedFiles.{RowsRight, rows_right, file-yes, rows-checked}
use Rattle.questions.specs.RoundTrips.{Writable}

-- ---- questions 1 to 5

module _ (rs : List Row) (some-rows : 1 ≤ length rs) (few : length rs ≤ most_rows) where
  size-is-right : LengthWords (file_of rs)
  size-is-right = let n = file-length rs in record { whole = omega arith; some-blocks = omega arith; few-blocks = omega arith }

  module _ (B : ℕ) (h : B < blocks_for (length rs)) where
    written-is-right : BlockWords (blocks_for (length rs)) B (written_block rs B)
    written-is-right =
        let k = blocks_for (length rs) in
        let part = block_rows rs B in
        let small = part_small rs B in
        let head = block-head k B part small in
        let p = part_length rs B in
        let c : byte_at (written_block rs B) 2 ≡ length part = head.2 in
        record {
          sum = block-sum k B part small;
          mark = head.0;
          number-low = head.1;
          number-high = head.3;
          count-last = λ l. (omega arith, omega arith);
          count-other = λ l. (let m : suc B < k = not_last l in omega arith);
          unused = λ i l.
              let e : 4 + 8 * byte_at (written_block rs B) 2 + i ≡ 4 + (8 * length part + i) = omega arith in
              ap (byte_at (written_block rs B)) e ∙ block-unused k B part small i (omega arith);
        }
      where
        not_last : ¬ (suc B ≡ blocks_for (length rs)) → suc B < blocks_for (length rs)
        not_last n = elim (dec_lt (suc B) (blocks_for (length rs))) [ yes l ↦ l | no l ↦ absurd (n (omega arith)) ]

    block-is-right : BlockWords (block_count (file_of rs)) B (block_at (file_of rs) B)
    block-is-right = rw (file-blocks rs, block_back rs B h) written-is-right

  -- Rows that fit and pass questions 6 to 10 are those of an accepted file.
  pub file-accepted : EachRow (λ r. FieldsFit (encode_row r)) rs → RowsRight names_earlier (map encode_row rs) → file_refusal (file_of rs) ≡ no_refusal
  unfolding netlist_of
  file-accepted fits R =
      let R' : RowsRight names_earlier (fields_of (file_of rs)) = rw (fields_back rs fits) R in
      file-yes names_earlier (file_of rs) (record { size = size-is-right; blocks = λ B h. block-is-right B (omega (arith, h, file-blocks rs)); rows = R'.rows; some-output = R'.some-output })

-- ---- what fits

-- A reset in range is a byte.
reset-small : (r : Row) → ResetIn r → (encode_row r).reset < 2 ^ 8
reset-small constant h = omega arith
reset-small (input _ _) h = omega arith
reset-small (register _ _ _) h = omega (arith, h)
reset-small (and_gate _ _) h = omega arith
reset-small (xor_gate _ _) h = omega arith
reset-small (mux_gate _ _ _) h = omega arith
reset-small (output _ _ _) h = omega arith

module _ (rows : List Row) (w : Writable rows) where
  right : RowsRight names_earlier (map encode_row rows)
  right = rows_right names_earlier (map encode_row rows) (rw w.pass)

  checked : CheckedRows rows
  checked = rw (decode-rows rows) at (rows-checked (map encode_row rows) right)

  some-rows : 1 ≤ length rows
  some-rows = omega (arith, checked.has-output.4)

  fits : EachRow (λ r. FieldsFit (encode_row r)) rows
  fits i h = row_fits i (length rows) (omega (arith, w.few)) (omega (arith, w.few)) (row_at rows i) (checked.operands i h) (checked.nexts i h) (w.labels i h) (checked.phases i h)

  pub writable-read : netlist_of (file_of rows) ≡ rows
  writable-read = read_back rows fits

  pub writable-accepted : file_refusal (file_of rows) ≡ no_refusal
  writable-accepted = file-accepted rows some-rows w.few fits right

  pub writable-bytes : IsBytes (file_of rows)
  writable-bytes = file-is-bytes rows (λ i h. reset-small (row_at rows i) (checked.resets i h))
