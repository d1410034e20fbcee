-- An accepted file, read and written afresh, is the same bytes; and the round trips together.
-- Assumes nothing.
use Prim.Native.Nat.{ℕ, zero, suc, ◌+◌, ◌-◌, ◌*◌, ◌<◌, ◌/◌, ◌%◌, ◌^◌}
use mathlib.Core.Path.{◌≡◌, sym, ap, ◌∙◌, subst}
use mathlib.Core.List.{List, map}
use native.Mathlib.Omega.{arith}
use native.Mathlib.Decide.{dec_lt}
use lib.ListN.{length, length-map, get_or-map, get_or-eq_default}
use lib.Seq.{ext_get_or}
use Rattle.memory.specs.Fields.{IsBytes, byte_at, u32_at, u32_bytes}
use Rattle.memory.proofs.FieldLaws.{u32-small, u32-write}
use Rattle.netlist.specs.Rows.{Row, RowFields, encode_row, decode_row, constant, row_at}
use Rattle.netlist.specs.FileFormat.{word_sum, right_sum, block_count, block_at, block_rows, block_bytes, row_offset, read_fields, field_bytes, row_bytes, fields_of, fields_at, netlist_of, file_of}
use Rattle.netlist.proofs.FileLaws.{sum-suc, sum-cong, block-at, block_size, fields-write, block-head, block_row, block-unused, block-check, check-word, check-small, block-sum, part_small, part_length, part_at, file-length, file-at, read_length, read_at, file-labels}
use Rattle.questions.specs.Questions.{names_earlier, file_refusal}
use Rattle.questions.proofs.AcceptedFiles.{RowsRight, rows-fields, rows-yes, FileRight, file-right, file-rows, last-count, rows-of-file}
use Rattle.questions.specs.RoundTrips.{RoundTrips}
use Rattle.questions.proofs.WriteThenRead.{writable-read, writable-accepted, writable-bytes}

-- Rows that pass questions 6 to 10 have the fields that they are read from.
encode-rows : (ws : List RowFields) → RowsRight names_earlier ws → map encode_row (map decode_row ws) ≡ ws
encode-rows ws R =
    let n : length (map encode_row (map decode_row ws)) ≡ length ws = length-map (map decode_row ws) encode_row ∙ length-map ws decode_row in
    ext_get_or (encode_row constant) (map encode_row (map decode_row ws)) ws n (λ i l.
    get_or-map encode_row (map decode_row ws) i constant ∙ rows-fields names_earlier ws R i (omega (arith, l, length-map (map decode_row ws) encode_row)))

module _ (file : List ℕ) (ok : (file_refusal file).number ≡ 0) where
  -- The blocks and the rows.
  abbrev K : ℕ
  K = block_count file

  abbrev rows : List Row
  rows = netlist_of file

  right : FileRight names_earlier file
  right = file-right names_earlier file ok

  part-is : (B : ℕ) → B < K → length (block_rows rows B) ≡ byte_at (block_at file B) 2
  part-is B h = part_length rows B ∙ elim (dec_lt (suc B) K) [
    | yes l ↦
        (let c = (right.blocks B h).count-other (λ e. omega arith) in
        let n = read_length file in
        let t = last-count file right.size right.blocks in
        omega arith)
    | no l ↦
        (let e : K - 1 ≡ B = omega arith in
        let n = read_length file in
        let t = (right.blocks B h).count-last (omega arith) in
        let w : byte_at file (512 * (K - 1) + 2) ≡ byte_at (block_at file B) 2 = ap (λ (x : ℕ). byte_at file (512 * x + 2)) e ∙ sym (block-at file B 2 (omega arith)) in
        omega arith)
  ]

  fields-same : map encode_row (netlist_of file) ≡ fields_of file
  unfolding netlist_of
  fields-same = encode-rows (fields_of file) (file-rows names_earlier file right)

  row_same : (i : ℕ) → i < length rows → encode_row (row_at rows i) ≡ read_fields file i
  row_same i h = sym (get_or-map encode_row rows i constant) ∙ ap (λ (ws : List RowFields). fields_at ws i) fields-same ∙ read_at file i (omega (arith, read_length file))

  module _ (bytes : IsBytes file) where
    module _ (B : ℕ) (h : B < K) where
      -- Block B, written afresh, and as it stands in the file.
      abbrev part : List Row
      part = block_rows rows B

      abbrev block : List ℕ
      block = block_bytes K B part

      abbrev stored : List ℕ
      stored = block_at file B

      stored-length : length stored ≡ 512
      stored-length = let s = right.size.whole in block_size file B (omega arith)

      abbrev Same : ℕ → Type 0
      Same o = byte_at block o ≡ byte_at stored o

      row-byte : (j d : ℕ) → j < length part → d < 8 → Same (4 + (8 * j + d))
      row-byte j d l m =
          let b : j < 63 = omega (arith, part_small rows B) in
          let e : row_offset (63 * B + j) + d ≡ 512 * B + (4 + (8 * j + d)) = omega arith in
          block_row K B part (part_small rows B) j d l m
          ∙ ap (λ (r : Row). byte_at (row_bytes r) d) (part_at rows B j b)
          ∙ ap (λ (w : RowFields). byte_at (field_bytes w) d) (row_same (63 * B + j) (omega (arith, part_length rows B)))
          ∙ fields-write file bytes (63 * B + j) d m
          ∙ ap (byte_at file) e
          ∙ sym (block-at file B (4 + (8 * j + d)) (omega arith))

      unused-byte : (i : ℕ) → i < 504 - 8 * length part → Same (4 + (8 * length part + i))
      unused-byte i l =
          let p = part-is B h in
          let e : 4 + 8 * byte_at stored 2 + i ≡ 4 + (8 * length part + i) = omega arith in
          block-unused K B part (part_small rows B) i l ∙ sym ((right.blocks B h).unused i (omega arith)) ∙ ap (byte_at stored) e

      body-byte : (o : ℕ) → o < 508 → Same o
      body-byte zero l = (block-head K B part (part_small rows B)).0 ∙ sym (right.blocks B h).mark
      body-byte (suc zero) l = (block-head K B part (part_small rows B)).1 ∙ sym (right.blocks B h).number-low
      body-byte (suc (suc zero)) l = (block-head K B part (part_small rows B)).2 ∙ part-is B h
      body-byte (suc (suc (suc zero))) l = (block-head K B part (part_small rows B)).3 ∙ sym (right.blocks B h).number-high
      body-byte (suc (suc (suc (suc y)))) l = elim (dec_lt (y / 8) (length part)) [
        | yes m ↦ (let e : 4 + (8 * (y / 8) + y % 8) ≡ suc (suc (suc (suc y))) = omega arith in subst Same e (row-byte (y / 8) (y % 8) m (omega arith)))
        | no m ↦
            (let e : 4 + (8 * length part + (y - 8 * length part)) ≡ suc (suc (suc (suc y))) = omega arith in
            subst Same e (unused-byte (y - 8 * length part) (omega arith)))
      ]

      stored_bytes : IsBytes stored
      stored_bytes o = elim (dec_lt o 512) [
        | yes l ↦ rw (block-at file B o l) (bytes (512 * B + o))
        | no l ↦ (let e : byte_at stored o ≡ 0 = get_or-eq_default stored 0 {n = o} (omega (arith, stored-length)) in omega (arith, e))
      ]

      -- Both checks make the same sum right.
      check-same : u32_at stored 508 ≡ u32_at block 508
      check-same =
          let e : word_sum stored 127 ≡ word_sum block 127 = sum-cong stored block 127 (λ i l. sym (body-byte i (omega arith))) in
          let p : (word_sum stored 127 + u32_at stored 508) % 2 ^ 32 ≡ right_sum = ap (λ (n : ℕ). n % 2 ^ 32) (sym (sum-suc stored 127)) ∙ (right.blocks B h).sum in
          let q : (word_sum block 127 + u32_at block 508) % 2 ^ 32 ≡ right_sum = ap (λ (n : ℕ). n % 2 ^ 32) (sym (sum-suc block 127)) ∙ block-sum K B part (part_small rows B) in
          same (word_sum stored 127) (word_sum block 127) (u32_at stored 508) (u32_at block 508) e
          (u32-small stored 508 stored_bytes) (omega (arith, check-word K B part (part_small rows B), check-small K B part (part_small rows B))) p q
        where
          same : (S T u w : ℕ) → S ≡ T → u < 2 ^ 32 → w < 2 ^ 32 → (S + u) % 2 ^ 32 ≡ right_sum → (T + w) % 2 ^ 32 ≡ right_sum → u ≡ w
          same S T u w e a b p q = omega arith

      check-byte : (d : ℕ) → d < 4 → Same (508 + d)
      check-byte d l =
          block-check K B part (part_small rows B) d
          ∙ ap (λ (n : ℕ). byte_at (u32_bytes n) d) (sym (check-word K B part (part_small rows B)) ∙ sym check-same)
          ∙ u32-write stored 508 stored_bytes d l

      block-byte : (o : ℕ) → o < 512 → Same o
      block-byte o l = elim (dec_lt o 508) [
        | yes m ↦ body-byte o m
        | no m ↦ (let e : 508 + (o - 508) ≡ o = omega arith in subst Same e (check-byte (o - 508) (omega arith)))
      ]

    same_bytes : file_of (netlist_of file) ≡ file
    same_bytes =
        let k = (rows-of-file names_earlier file right).2 in
        let s = right.size.whole in
        let n : length (file_of rows) ≡ length file = file-length rows ∙ ap (λ (x : ℕ). 512 * x) k ∙ sym s in
        ext_get_or 0 (file_of rows) file n (λ x l.
        let e : x ≡ 512 * (x / 512) + x % 512 = omega arith in
        let b : x / 512 < K = omega arith in
        ap (byte_at (file_of rows)) e
        ∙ file-at rows (x / 512) (x % 512) (omega arith) (omega arith)
        ∙ ap (λ (y : ℕ). byte_at (block_bytes y (x / 512) (block_rows rows (x / 512))) (x % 512)) k
        ∙ block-byte (x / 512) b (x % 512) (omega arith)
        ∙ block-at file (x / 512) (x % 512) (omega arith)
        ∙ ap (byte_at file) (sym e))

pub write_read : (file : List ℕ) → IsBytes file → (file_refusal file).number ≡ 0 → file_of (netlist_of file) ≡ file
write_read file bytes ok = same_bytes file ok bytes

pub round-trips : RoundTrips
round-trips = record {
  write-then-read = writable-read;
  written-is-accepted = writable-accepted;
  written-is-bytes = writable-bytes;
  read-then-write = λ file bytes q. write_read file bytes (rw q);
  read-is-writable = λ file bytes q.
      let ok : (file_refusal file).number ≡ 0 = rw q in
      record { few = (rows-of-file names_earlier file (right file ok)).1; pass = rw (fields-same file ok) (rows-yes names_earlier (fields_of file) (file-rows names_earlier file (right file ok))); labels = file-labels file bytes };
}
