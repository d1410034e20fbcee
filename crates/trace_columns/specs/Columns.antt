-- Columns: where the values of the original's inputs, or X registers, stand among those that the folded netlist is given.
-- Interface: wanted_row, NameIs, LabelsListed, FoundFrom, HasLabel, column_of, MapReady, ColumnsOf.
-- Assumes nothing.
use Rattle.std.specs.Prelude.{ℕ, ◌+◌, ◌*◌, ◌<◌, ◌≤◌, ◌^◌, ◌≡◌, Bool, true, false, cond, ◌&&◌, List, length, eqb, ltb}
use Rattle.memory.specs.Lists.{first_from}
use Rattle.memory.specs.Slots.{slot_at, set_slot}
use Rattle.netlist.specs.Rows.{Row, row_at, label_of, phase_of, is_input, is_unknown}
use Rattle.netlist.specs.RunLayout.{place_among}
use Rattle.trace_columns.specs.declared.Name.{Name}

-- The rows that are asked for: X registers, or inputs.
abbrev pub wanted_row : Bool → Row → Bool
wanted_row unknown r = cond unknown (is_unknown r) (is_input r)

-- The name that is read of a row.
pub record NameIs (r : Row) (unknown : Bool) (n : Name) : Type 0 where
  pub wanted : n.wanted ≡ wanted_row unknown r
  pub label : wanted_row unknown r ≡ true → n.label ≡ label_of r
  pub phase : wanted_row unknown r ≡ true → n.phase ≡ phase_of r
  pub small : n.label < 2 ^ 16

-- A row that is asked for has its label in slot n; m are listed then.
pub record LabelPut (r : Row) (unknown : Bool) (labels labels' : List ℕ) (n m : ℕ) : Type 0 where
  pub counted : m ≡ n + cond (wanted_row unknown r) 1 0
  pub put : wanted_row unknown r ≡ true → labels' ≡ set_slot labels n (label_of r)
  pub kept : wanted_row unknown r ≡ false → labels' ≡ labels
  pub fits : wanted_row unknown r ≡ true → label_of r < 2 ^ 16
  pub long : length labels' ≡ length labels

-- Of the first n rows, the labels of those that f counts, as slots in row order.
abbrev pub LabelsListed : (Row → Bool) → List Row → ℕ → List ℕ → Type 0
LabelsListed f rows n labels = (i : ℕ) → i < n → f (row_at rows i) ≡ true → slot_at labels (place_among f rows i) ≡ label_of (row_at rows i)

-- x is the first of slots `from` to n - 1 that has the label, or n.
pub record FoundFrom (labels : List ℕ) (from n label x : ℕ) : Type 0 where
  pub within : x ≤ n
  pub is : x < n → slot_at labels x ≡ label
  pub misses : n ≤ x → (j : ℕ) → from ≤ j → j < n → ¬ (slot_at labels j ≡ label)

-- One of the first n slots has the label.
abbrev pub HasLabel : List ℕ → ℕ → ℕ → Type 0
HasLabel labels n label = (j : ℕ) × (j < n) × (slot_at labels j ≡ label)

-- Row i is one that f counts, of this label and phase.
abbrev pub is_called : (Row → Bool) → List Row → ℕ → ℕ → ℕ → Bool
is_called f rows l p i = f (row_at rows i) && eqb (label_of (row_at rows i)) l && eqb (phase_of (row_at rows i)) p

-- Of the first n rows: one more than the place, among the rows that f counts, of the first one of this label and phase; 0 if there is none.
unfoldable pub column_of : (Row → Bool) → List Row → ℕ → ℕ → ℕ → ℕ
column_of f rows n l p = let y = first_from 0 n (is_called f rows l p) in cond (ltb y n) (place_among f rows y + 1) 0

-- For each phase and each label the column, of the first n rows of the folded netlist.
abbrev pub ColumnsOf : (Row → Bool) → List Row → ℕ → ℕ → List ℕ → ℕ → List ℕ → Type 0
ColumnsOf f folded n phases labels count columns = (p x : ℕ) → p < phases → x < count → slot_at columns (p * count + x) ≡ column_of f folded n (slot_at labels x) p

-- A row that is asked for has one of the labels, and a phase; and there are slots.
pub record RowThere (r : Row) (unknown : Bool) (phases : ℕ) (labels : List ℕ) (count : ℕ) (columns : List ℕ) : Type 0 where
  pub there : wanted_row unknown r ≡ true → HasLabel labels count (label_of r)
  pub phased : wanted_row unknown r ≡ true → phase_of r < phases
  pub labels-fit : 2 * count ≤ length labels
  pub columns-fit : 2 * (phases * count) ≤ length columns
  pub few : phases * count < 2 ^ 32

-- A row that is asked for has its column in the slot of its label and phase; c columns were there, and d are.
pub record RowMapped (r : Row) (unknown : Bool) (labels : List ℕ) (count : ℕ) (columns columns' : List ℕ) (c d : ℕ) : Type 0 where
  pub counted : d ≡ c + cond (wanted_row unknown r) 1 0
  pub put : wanted_row unknown r ≡ true → (x : ℕ) × (x < count) × (slot_at labels x ≡ label_of r) × (columns' ≡ set_slot columns (phase_of r * count + x) (c + 1))
  pub kept : wanted_row unknown r ≡ false → columns' ≡ columns
  pub long : length columns' ≡ length columns

-- What the folded netlist's rows ask of the labels and of the memory for columns.
pub record MapReady (f : Row → Bool) (folded : List Row) (phases : ℕ) (labels : List ℕ) (count : ℕ) (columns : List ℕ) : Type 0 where
  -- labels differ, and each row that f counts has one of them, and a phase
  pub distinct : (i j : ℕ) → i < count → j < count → slot_at labels i ≡ slot_at labels j → i ≡ j
  pub there : (y : ℕ) → y < length folded → f (row_at folded y) ≡ true → HasLabel labels count (label_of (row_at folded y))
  pub phased : (y : ℕ) → y < length folded → f (row_at folded y) ≡ true → phase_of (row_at folded y) < phases
  -- no two such rows have one label and phase
  pub unique : (x y : ℕ) → x < length folded → y < length folded → f (row_at folded x) ≡ true → f (row_at folded y) ≡ true → label_of (row_at folded x) ≡ label_of (row_at folded y) → phase_of (row_at folded x) ≡ phase_of (row_at folded y) → x ≡ y
  pub labels-fit : 2 * count ≤ length labels
  pub columns-fit : 2 * (phases * count) ≤ length columns
  pub few : phases * count < 2 ^ 32
