-- What an accepted netlist is, as propositions: literals that name rows in range, phases, resets, names that are unique.
-- Interface: CheckedRows and UnorderedRows (questions 6 to 10), FoldableRows (6 to 13), FileShape (rows that a file is written of), and the words that they are made of.
-- Assumes nothing.
use Rattle.std.specs.Prelude.{ℕ, ◌<◌, ◌≤◌, ◌/◌, ◌^◌, ◌≡◌, true, false, List, [], ◌∷◌, length}
use Rattle.memory.specs.Lists.{count_if}
use Rattle.netlist.specs.Limits.{most_phases, most_original_rows, most_original_registers}
use Rattle.netlist.specs.Rows.{Row, constant, input, register, and_gate, xor_gate, mux_gate, output, RowFields, row_at, kind_of, label_of, phase_of, on_register, has_name, is_register, is_output}

-- P holds of each row of the list.
abbrev pub EachRow : (Row → Type 0) → List Row → Type 0
EachRow P xs = (i : ℕ) → i < length xs → P (row_at xs i)

-- Each number of the list is below n.
abbrev pub EachBelow : ℕ → List ℕ → Type 0
EachBelow n [] = Unit {0}
EachBelow n (j ∷ js) = (j < n) × EachBelow n js

-- What the fields a, b and c have room for.
pub record FieldsFit (w : RowFields) : Type 0 where
  pub a-fits : w.a < 2 ^ 16
  pub b-fits : w.b < 2 ^ 16
  pub c-fits : w.c < 2 ^ 16

-- The operands of a gate, and an output's literal, name rows below j.
abbrev pub OperandsBelow : ℕ → Row → Type 0
OperandsBelow j constant = Unit {0}
OperandsBelow j (input l p) = Unit {0}
OperandsBelow j (register r n l) = Unit {0}
OperandsBelow j (and_gate a b) = (a / 2 < j) × (b / 2 < j)
OperandsBelow j (xor_gate a b) = (a / 2 < j) × (b / 2 < j)
OperandsBelow j (mux_gate a b c) = (a / 2 < j) × (b / 2 < j) × (c / 2 < j)
OperandsBelow j (output a l p) = a / 2 < j

abbrev pub Ordered : List Row → Type 0
Ordered rows = (j : ℕ) → j < length rows → OperandsBelow j (row_at rows j)

-- A register's next value names a row below m.
abbrev pub NextBelow : ℕ → Row → Type 0
NextBelow m = on_register (Unit {0}) (λ r n l. n / 2 < m)

-- A register's reset is 0, 1 or X.
abbrev pub ResetIn : Row → Type 0
ResetIn = on_register (Unit {0}) (λ r n l. r ≤ 2)

-- The literal names a row that is no output.
abbrev pub NamesNode : List Row → ℕ → Type 0
NamesNode rows l = (l / 2 < length rows) × (is_output (row_at rows (l / 2)) ≡ false)

-- P holds of a gate's operands, and Q of a register's next value and an output's literal.
abbrev pub OnLiterals : (ℕ → Type 0) → (ℕ → Type 0) → Row → Type 0
OnLiterals P Q constant = Unit {0}
OnLiterals P Q (input l p) = Unit {0}
OnLiterals P Q (register r n l) = Q n
OnLiterals P Q (and_gate a b) = P a × P b
OnLiterals P Q (xor_gate a b) = P a × P b
OnLiterals P Q (mux_gate a b c) = (P a × P b) × P c
OnLiterals P Q (output a l p) = Q a

-- Two rows of one kind, label and phase.
pub record SameName (r s : Row) : Type 0 where
  pub kind : kind_of r ≡ kind_of s
  pub label : label_of r ≡ label_of s
  pub phase : phase_of r ≡ phase_of s

-- No two rows have one name: two rows of one kind, label and phase are one row.
abbrev pub NamesUnique : List Row → Type 0
NamesUnique rows = (x y : ℕ) → x < length rows → y < length rows → has_name (row_at rows x) ≡ true → SameName (row_at rows x) (row_at rows y) → x ≡ y

-- The same of each two rows, the lower one first.
abbrev pub NamesDistinct : List Row → Type 0
NamesDistinct xs = (i j : ℕ) → i < j → j < length xs → has_name (row_at xs i) ≡ true → SameName (row_at xs i) (row_at xs j) → ⊥

-- Rows in the shape of a file that Check accepts, with phases below N: the constant first, then nodes, then outputs; names unique, phases and resets in range, literals that name nodes.
pub record FileShape (N : ℕ) (rows : List Row) : Type 0 where
  pub some-row : 0 < length rows
  pub constant-first : row_at rows 0 ≡ constant
  pub solid : (y : ℕ) → 0 < y → y < length rows → 0 < kind_of (row_at rows y)
  pub nodes-first : (y : ℕ) → y < length rows → is_output (row_at rows y) ≡ false → (x : ℕ) → x < y → is_output (row_at rows x) ≡ false
  pub some-output : (y : ℕ) × (y < length rows) × (is_output (row_at rows y) ≡ true)
  pub phases : (y : ℕ) → y < length rows → phase_of (row_at rows y) < N
  pub resets : (y : ℕ) → y < length rows → ResetIn (row_at rows y)
  pub distinct : NamesDistinct rows
  pub literals : (y : ℕ) → y < length rows → OnLiterals (λ l. l / 2 < y) (NamesNode rows) (row_at rows y)

-- What questions 6 to 10 say of the rows, where `Operands` says what the operands of gates may name.
pub record CheckedBy (Operands : List Row → Type 0) (rows : List Row) : Type 0 where
  pub operands : Operands rows
  pub nexts : (x : ℕ) → x < length rows → NextBelow (length rows) (row_at rows x)
  pub resets : (x : ℕ) → x < length rows → ResetIn (row_at rows x)
  pub phases : (x : ℕ) → x < length rows → phase_of (row_at rows x) < most_phases
  pub constant-first : row_at rows 0 ≡ constant
  pub constant-only : (x : ℕ) → x < length rows → kind_of (row_at rows x) ≡ 0 → x ≡ 0
  pub nodes-first : (x y : ℕ) → y < length rows → is_output (row_at rows x) ≡ true → is_output (row_at rows y) ≡ false → y < x
  pub has-output : (x a l p : ℕ) × (x < length rows) × (row_at rows x ≡ output a l p)
  pub unique : NamesUnique rows

-- The netlist of a file that Check accepts: gates name earlier rows.
abbrev pub CheckedRows : List Row → Type 0
CheckedRows = CheckedBy Ordered

-- Each gate may name any node.
abbrev pub Unordered : List Row → Type 0
Unordered rows = (x : ℕ) → x < length rows → OnLiterals (NamesNode rows) (NamesNode rows) (row_at rows x)

-- The netlist of a file whose gates may stand in any order.
abbrev pub UnorderedRows : List Row → Type 0
UnorderedRows = CheckedBy Unordered

-- A netlist that Fold accepts, as far as its values go.
pub record WellFormed (rows : List Row) : Type 0 where
  pub ordered : Ordered rows
  pub nexts : (x : ℕ) → x < length rows → NextBelow (length rows) (row_at rows x)
  pub phases : (x : ℕ) → x < length rows → phase_of (row_at rows x) ≡ 0

-- What questions 6 to 13 say of the rows.
pub record FoldableRows (rows : List Row) : Type 0 where
  pub checked : CheckedRows rows
  pub small : length rows ≤ most_original_rows
  pub registers : count_if is_register rows ≤ most_original_registers
  pub unphased : (x : ℕ) → x < length rows → phase_of (row_at rows x) ≡ 0
