-- The netlist file: the scope paper, "The netlist file". Rows from bytes, and bytes from rows; the questions stand in crate `questions`.
-- Interface: block_count, block_at, row_part, row_offset, fields_of, netlist_of (reading); file_of, file_in, file_left (writing).
-- Assumes nothing.
use Rattle.std.specs.Prelude.{ℕ, zero, suc, ◌+◌, ◌-◌, ◌*◌, ◌/◌, ◌%◌, ◌^◌, cond, List, ◌∷◌, ◌++◌, map, length, get_or, take, drop, replicate, eqb}
use Rattle.memory.specs.Lists.{join_below, tabulate}
use Rattle.memory.specs.Fields.{byte_at, u16_at, u32_at, u16_bytes, u32_bytes}
use Rattle.netlist.specs.Rows.{Row, RowFields, encode_row, decode_row, constant, row_at}

-- Byte 0 of block B of k: 2 in the last block and 1 in the others.
abbrev pub last_mark : ℕ → ℕ → ℕ
last_mark k B = cond (eqb (suc B) k) 2 1

-- Bytes 1 and 3 of block B: the low and the high byte of its number, which has 16 bits.
abbrev pub low_byte : ℕ → ℕ
low_byte B = B % 2 ^ 8

abbrev pub high_byte : ℕ → ℕ
high_byte B = B / 2 ^ 8 % 2 ^ 8

-- The sum of the first n words of 32 bits, and what a block's must be modulo 2 to the 32.
unfoldable pub word_sum : List ℕ → ℕ → ℕ
word_sum b zero = zero
word_sum b (suc n) = word_sum b n + u32_at b (4 * n)

abbrev pub right_sum : ℕ
right_sum = 4294967295

-- ---- reading

abbrev pub block_count : List ℕ → ℕ
block_count f = length f / 512

-- Block number B is the 512 bytes from 512 × B; its row part is the 504 bytes after its head.
abbrev pub block_at : List ℕ → ℕ → List ℕ
block_at f B = take 512 (drop (512 * B) f)

abbrev pub row_part : List ℕ → ℕ → List ℕ
row_part f B = take 504 (drop 4 (block_at f B))

-- Where row i begins: 63 places of 8 bytes after the 4 bytes of a block's head.
abbrev pub row_offset : ℕ → ℕ
row_offset i = 512 * (i / 63) + 4 + 8 * (i % 63)

abbrev pub read_fields : List ℕ → ℕ → RowFields
read_fields f i =
    let o = row_offset i in
    record { kind = byte_at f o; reset = byte_at f (o + 1); a = u16_at f (o + 2); b = u16_at f (o + 4); c = u16_at f (o + 6) }

-- Every block but the last has 63 rows; byte 2 of the last one counts its rows.
abbrev pub row_count : List ℕ → ℕ
row_count f = 63 * (block_count f - 1) + byte_at f (512 * (block_count f - 1) + 2)

unfoldable pub fields_of : List ℕ → List RowFields
fields_of f = tabulate (row_count f) (read_fields f)

-- The fields of row i; past the end those of the constant.
abbrev pub fields_at : List RowFields → ℕ → RowFields
fields_at ws i = get_or ws i (encode_row constant)

unfoldable pub netlist_of : List ℕ → List Row
netlist_of f = map decode_row (fields_of f)

-- ---- writing

abbrev pub field_bytes : RowFields → List ℕ
field_bytes w = w.kind ∷ w.reset ∷ u16_bytes w.a ++ u16_bytes w.b ++ u16_bytes w.c

abbrev pub row_bytes : Row → List ℕ
row_bytes r = field_bytes (encode_row r)

-- The 508 bytes of block B of k before its check, rs its rows; unused places are zero.
unfoldable pub block_body : ℕ → ℕ → List Row → List ℕ
block_body k B rs = last_mark k B ∷ low_byte B ∷ length rs ∷ high_byte B ∷ join_below (length rs) (λ i. row_bytes (row_at rs i)) ++ replicate (504 - 8 * length rs) 0

-- The check that makes the block's sum right.
unfoldable pub check_word : List ℕ → ℕ
check_word body = (right_sum - word_sum body 127 % 2 ^ 32) % 2 ^ 32

unfoldable pub block_bytes : ℕ → ℕ → List Row → List ℕ
block_bytes k B rs = let body = block_body k B rs in body ++ u32_bytes (check_word body)

-- The rows of block B.
abbrev pub block_rows : List Row → ℕ → List Row
block_rows rs B = take 63 (drop (63 * B) rs)

-- How many blocks n rows take.
abbrev pub blocks_for : ℕ → ℕ
blocks_for n = (n + 62) / 63

-- The file of these rows.
unfoldable pub file_of : List Row → List ℕ
file_of rs = let k = blocks_for (length rs) in join_below k (λ B. block_bytes k B (block_rows rs B))

-- The old result becomes the file of these rows, with zeros to its end.
abbrev pub file_in : List Row → List ℕ → List ℕ
file_in rows old = file_of rows ++ replicate (length old - length (file_of rows)) 0

-- The file of n rows at the start of a result.
abbrev pub file_left : List ℕ → ℕ → List ℕ
file_left result n = take (512 * blocks_for n) result
