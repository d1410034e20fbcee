-- Rows that have their new numbers, a row written at its own, and what is made of all of them.
-- Interface: Placeable, row_placed, RowsSorted.
-- Assumes nothing.
use Rattle.std.specs.Prelude.{ℕ, ◌*◌, ◌≤◌, ◌%◌, ◌≡◌, List, length}
use Rattle.std.proofs.lemmas.List.Edits.{sets}
use Rattle.memory.specs.Slots.{slot_at}
use Rattle.netlist.specs.Rows.{Row, encode_row, row_at}
use Rattle.netlist.specs.FileFormat.{row_offset, field_bytes, file_in}
use Rattle.questions.specs.Questions.{Refusal, no_refusal, unless_refused}
use Rattle.ordering.specs.GateOrder.{sorted_netlist}
use Rattle.ordering.specs.SortQuestions.{loop_refusal}
use Rattle.blockfile.specs.Renumbering.{renumber_fields, renumber_in}
use Rattle.gate_rows.specs.Sources.{source_rows, Source}
use Rattle.gate_rows.specs.declared.Layout.{Layout}
use Rattle.gate_numbers.specs.Numbers.{placed_slot, Numbered}

-- Every gate of the n rows can be placed, and the n slots of w have the rows' new numbers.
pub record Placeable (layout : Layout) (s w : List ℕ) (n : ℕ) : Type 0 where
  pub source : Source layout s n
  pub passed : loop_refusal (source_rows layout s) ≡ no_refusal
  pub numbers : Numbered (source_rows layout s) w
  pub room : 2 * n ≤ length w

-- The result with row i, renumbered, where its number says; w has the n slots.
abbrev pub row_placed : List Row → List ℕ → ℕ → ℕ → List ℕ → List ℕ
row_placed rows w n i result = sets result (row_offset (slot_at w i % placed_slot)) (field_bytes (renumber_fields (renumber_in w n) (encode_row (row_at rows i))))

-- 22, of rows whose gates stand in any order, and the sorted file if it is passed: an operation's refusal q and its count m; the result before and after.
pub record RowsSorted (rows : List Row) (result result' : List ℕ) (q : Refusal) (m : ℕ) : Type 0 where
  pub refusal : q ≡ loop_refusal rows
  pub count : m ≡ unless_refused (loop_refusal rows) (length rows) 0
  pub written : result' ≡ unless_refused (loop_refusal rows) (file_in (sorted_netlist rows) result) result
