-- Rows moved down in place, with the numbers that the slots have.
-- Assumes nothing.
use Rattle.std.specs.Prelude.{ℕ, ◌+◌, ◌≡◌, Bool, cond, List, length}
use Rattle.std.proofs.lemmas.List.Edits.{sets}
use Rattle.netlist.specs.Rows.{Row}
use Rattle.netlist.specs.FileFormat.{row_offset, read_fields, field_bytes}
use Rattle.abstraction.specs.Compaction.{new_index, compact_up_to}
use Rattle.blockfile.specs.RowsStand.{RowsStand}
use Rattle.blockfile.specs.Renumbering.{renumber_fields, renumber_in}
use Rattle.cone_search.specs.FoundRows.{mark_at}
use Rattle.compaction.specs.Compactable.{Compactable}
use Rattle.compaction.specs.Slots.{slot_count, mark_bit, Numbered}

-- f with row i, renumbered, as row t.
abbrev pub move_row : List ℕ → List ℕ → ℕ → ℕ → List ℕ
move_row f w i t = sets f (row_offset t) (field_bytes (renumber_fields (renumber_in w slot_count) (read_fields f i)))

-- The same if row i is marked, and how many rows then stand in front.
pub record RowKept (f w : List ℕ) (i t : ℕ) (f' : List ℕ) (t' : ℕ) : Type 0 where
  pub bytes : f' ≡ cond (mark_at w i) (move_row f w i t) f
  pub count : t' ≡ t + mark_bit (mark_at w i)

-- What is asked of the rows rs in f and of the marks m whose numbers are in w.
pub record Movable (f w : List ℕ) (n : ℕ) (rs : List Row) (m : List Bool) : Type 0 where
  pub size : length rs ≡ n
  pub stand : RowsStand rs f
  pub right : Compactable rs
  pub numbers : Numbered w n m

-- The first i of them are moved: those that are marked stand in front, t of them.
abbrev pub MovedTo : List ℕ → List ℕ → ℕ → ℕ → List ℕ → ℕ → Type 0
MovedTo f w n i f' t = (rs : List Row) (m : List Bool) → Movable f w n rs m → (t ≡ new_index m i) × RowsStand (compact_up_to rs m i) f'
