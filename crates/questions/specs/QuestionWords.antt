-- What each question that is asked of a file, or by Run, means in the scope paper's words; Fold's own questions stand in `FoldRefusalWords`, Sort's in `SortRefusalWords`, and where the words are one inequality (17, 21) they stand in `RefusalWords`.
-- Interface: LengthWords (1), SumWords, HeadWords, CountWords, UnusedWords (2 to 5), KindWords, FieldsWords, LabelWords, LiteralWords, UnorderedWords (6 to 9), OutputWords (10), ListsWords, BinaryWords, RoomWords (18 to 20).
-- Assumes nothing.
use Rattle.std.specs.Prelude.{ℕ, suc, ◌+◌, ◌-◌, ◌*◌, ◌<◌, ◌≤◌, ◌/◌, ◌%◌, ◌^◌, ◌≡◌, true, false, List, length}
use Rattle.memory.specs.Lists.{count_if}
use Rattle.memory.specs.Fields.{byte_at}
use Rattle.netlist.specs.Limits.{most_blocks, most_phases, row_work_bytes}
use Rattle.netlist.specs.Rows.{Row, encode_row, row_from_fields, row_at, phase_of, has_name, is_input, is_unknown, is_output}
use Rattle.netlist.specs.FileFormat.{last_mark, low_byte, high_byte, word_sum, right_sum, block_count}
use Rattle.netlist.specs.WellFormed.{SameName, ResetIn, NamesNode, OnLiterals}

-- ---- 1 to 5: the length, and block B of k, b its 512 bytes

-- 1: one block to the most blocks, and nothing more.
pub record LengthWords (f : List ℕ) : Type 0 where
  pub whole : length f ≡ 512 * block_count f
  pub some-blocks : 1 ≤ block_count f
  pub few-blocks : block_count f ≤ most_blocks

-- 2: the sum of the 128 words, its carries dropped, is the right one.
abbrev pub SumWords : List ℕ → Type 0
SumWords b = word_sum b 128 % 2 ^ 32 ≡ right_sum

-- Byte 0 is 2 in the last block and 1 in the others.
abbrev pub MarkWords : ℕ → ℕ → List ℕ → Type 0
MarkWords k B b = byte_at b 0 ≡ last_mark k B

-- 3: bytes 0, 1 and 3; the last two are the block's number.
pub record HeadWords (k B : ℕ) (b : List ℕ) : Type 0 where
  pub mark : MarkWords k B b
  pub number-low : byte_at b 1 ≡ low_byte B
  pub number-high : byte_at b 3 ≡ high_byte B

-- How many rows the block says that it has.
abbrev pub rows_said : List ℕ → ℕ
rows_said b = byte_at b 2

-- 4: the last block has 1 to 63 rows, every other 63.
pub record CountWords (k B : ℕ) (b : List ℕ) : Type 0 where
  pub last : suc B ≡ k → (1 ≤ rows_said b) × (rows_said b ≤ 63)
  pub other : ¬ (suc B ≡ k) → rows_said b ≡ 63

-- 5: every byte after the rows, up to the check, is zero.
abbrev pub UnusedWords : List ℕ → Type 0
UnusedWords b = (i : ℕ) → i < 504 - 8 * rows_said b → byte_at b (4 + 8 * rows_said b + i) ≡ 0

-- ---- 6 to 10: row i, and the rows

-- 6, of a row of kind k: a known kind, the constant in row 0 and in no other row, and no output before a node.
pub record KindWords (rows : List Row) (i k : ℕ) : Type 0 where
  pub known : k ≤ 6
  pub constant-only : k ≡ 0 → i ≡ 0
  pub constant-first : i ≡ 0 → k ≡ 0
  pub nodes-first : is_output (row_at rows i) ≡ false → (j : ℕ) → j < i → is_output (row_at rows j) ≡ false

-- 7, of fields of kind 0 to 6: what the kind does not name is zero, reset and phase are in range.
pub record FieldsWords (k r a b c : ℕ) : Type 0 where
  pub unnamed-zero : encode_row (row_from_fields k r a b c) ≡ record { kind = k; reset = r; a = a; b = b; c = c }
  pub reset-in : ResetIn (row_from_fields k r a b c)
  pub phase-in : phase_of (row_from_fields k r a b c) < most_phases

-- 8: no earlier row is of this row's kind, label and phase, if it is a row with a name.
abbrev pub LabelWords : List Row → ℕ → Type 0
LabelWords rows i = (j : ℕ) → j < i → ¬ ((has_name (row_at rows i) ≡ true) × SameName (row_at rows i) (row_at rows j))

-- The literal names a node of smaller number than i.
abbrev pub NamesEarlierNode : List Row → ℕ → ℕ → Type 0
NamesEarlierNode rows i l = (l / 2 < i) × (is_output (row_at rows (l / 2)) ≡ false)

-- 9: a gate's operands name nodes of smaller number; a register's next value and an output's literal name any node.
abbrev pub LiteralWords : List Row → ℕ → Type 0
LiteralWords rows i = OnLiterals (NamesEarlierNode rows i) (NamesNode rows) (row_at rows i)

-- 9 where gates may stand in any order: their operands name any node too.
abbrev pub UnorderedWords : List Row → ℕ → Type 0
UnorderedWords rows i = OnLiterals (NamesNode rows) (NamesNode rows) (row_at rows i)

-- 10: some row is an output.
abbrev pub OutputWords : List Row → Type 0
OutputWords rows = (i : ℕ) × (i < length rows) × (is_output (row_at rows i) ≡ true)

-- ---- 18 to 20: Run

-- 18: the lists have a value for each X register, and T times one for each input.
abbrev pub ListsWords : List Row → ℕ → List ℕ → List ℕ → Type 0
ListsWords rows T choices inputs = (length choices ≡ count_if is_unknown rows) × (length inputs ≡ T * count_if is_input rows)

-- 19, of one list: each value is 0 or 1.
abbrev pub BinaryWords : List ℕ → Type 0
BinaryWords vs = (i : ℕ) → i < length vs → byte_at vs i ≤ 1

-- 20: the result holds T times a byte for each output, and work is long enough for the rows.
abbrev pub RoomWords : List Row → ℕ → ℕ → ℕ → Type 0
RoomWords rows T result work = (T * count_if is_output rows ≤ result) × (row_work_bytes (length rows) ≤ work)
