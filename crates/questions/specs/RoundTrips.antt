-- Demand 2: a netlist written and read again is the same netlist; an accepted file, read and written afresh, is the same bytes.
-- Interface: Writable, RoundTrips.
-- Assumes nothing.
use Rattle.std.specs.Prelude.{ℕ, ◌<◌, ◌≤◌, ◌^◌, ◌≡◌, List, map, length}
use Rattle.memory.specs.Fields.{IsBytes}
use Rattle.netlist.specs.Limits.{most_rows}
use Rattle.netlist.specs.Rows.{Row, encode_row, row_at, label_of}
use Rattle.netlist.specs.FileFormat.{file_of, netlist_of}
use Rattle.questions.specs.Questions.{no_refusal, names_earlier, rows_refusal, file_refusal}

-- The netlists that a file can hold: at most most_rows rows, which pass questions 6 to 10 (so there is one), with labels of 16 bits.
pub record Writable (rows : List Row) : Type 0 where
  pub few : length rows ≤ most_rows
  pub pass : rows_refusal names_earlier (map encode_row rows) ≡ no_refusal
  pub labels : (i : ℕ) → i < length rows → label_of (row_at rows i) < 2 ^ 16

pub record RoundTrips : Type 0 where
  -- A netlist, written: an accepted file of bytes, which is read as the same netlist.
  pub write-then-read : (rows : List Row) → Writable rows → netlist_of (file_of rows) ≡ rows
  pub written-is-accepted : (rows : List Row) → Writable rows → file_refusal (file_of rows) ≡ no_refusal
  pub written-is-bytes : (rows : List Row) → Writable rows → IsBytes (file_of rows)
  -- An accepted file, read: a netlist that can be written, and is written as the same bytes.
  pub read-then-write : (file : List ℕ) → IsBytes file → file_refusal file ≡ no_refusal → file_of (netlist_of file) ≡ file
  pub read-is-writable : (file : List ℕ) → IsBytes file → file_refusal file ≡ no_refusal → Writable (netlist_of file)
