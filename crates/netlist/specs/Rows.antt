-- Rows, their fields, names and literals: the scope paper, "The netlist file".
-- Interface: Row, RowFields, encode_row, decode_row, row_at, kind_of, on_register, on_output, is_input, is_register, is_unknown, is_output, label_of, phase_of, has_name, is_named, row_named, has_row, is_unknown_named, HasInput, HasRegister, HasUnknown, HasOutput, literals_of, fanin_nodes, map_literals.
-- Assumes nothing.
use Rattle.std.specs.Prelude.{ℕ, zero, suc, ◌/◌, ◌≡◌, Bool, true, false, ◌&&◌, ◌||◌, List, [], ◌∷◌, map, length, get_or, eqb, ltb}
use Rattle.memory.specs.Lists.{first_from}

-- A row by its kind, 0 to 6 in this order, with the fields that its kind names.
pub data Row : Type 0 where
  constant : Row  -- 0 constant false
  input : ℕ → ℕ → Row  -- 1 input: label, phase
  register : ℕ → ℕ → ℕ → Row  -- 2 register: reset, next-value literal, label
  and_gate : ℕ → ℕ → Row  -- 3
  xor_gate : ℕ → ℕ → Row  -- 4
  mux_gate : ℕ → ℕ → ℕ → Row  -- 5 the second if the first is 1, the third if it is 0
  output : ℕ → ℕ → ℕ → Row  -- 6 output: literal, label, phase

-- A row as its eight bytes have it.
pub record RowFields : Type 0 where
  pub kind : ℕ
  pub reset : ℕ
  pub a : ℕ
  pub b : ℕ
  pub c : ℕ

-- The fields of a row; what its kind does not name is zero.
abbrev pub encode_row : Row → RowFields
encode_row constant = record { kind = 0; reset = 0; a = 0; b = 0; c = 0 }
encode_row (input l p) = record { kind = 1; reset = 0; a = l; b = p; c = 0 }
encode_row (register r n l) = record { kind = 2; reset = r; a = n; b = l; c = 0 }
encode_row (and_gate a b) = record { kind = 3; reset = 0; a = a; b = b; c = 0 }
encode_row (xor_gate a b) = record { kind = 4; reset = 0; a = a; b = b; c = 0 }
encode_row (mux_gate a b c) = record { kind = 5; reset = 0; a = a; b = b; c = c }
encode_row (output a l p) = record { kind = 6; reset = 0; a = a; b = l; c = p }

-- The row of these fields. A kind above 6 is refused by question 6; such a row is no output, so it is read as a node.
abbrev pub row_from_fields : ℕ → ℕ → ℕ → ℕ → ℕ → Row
row_from_fields zero r a b c = constant
row_from_fields (suc zero) r a b c = input a b
row_from_fields (suc (suc zero)) r a b c = register r a b
row_from_fields (suc (suc (suc zero))) r a b c = and_gate a b
row_from_fields (suc (suc (suc (suc zero)))) r a b c = xor_gate a b
row_from_fields (suc (suc (suc (suc (suc zero))))) r a b c = mux_gate a b c
row_from_fields (suc (suc (suc (suc (suc (suc zero)))))) r a b c = output a b c
row_from_fields (suc (suc (suc (suc (suc (suc (suc k))))))) r a b c = constant

abbrev pub decode_row : RowFields → Row
decode_row w = row_from_fields w.kind w.reset w.a w.b w.c

-- Row i; past the end the constant.
abbrev pub row_at : List Row → ℕ → Row
row_at rows i = get_or rows i constant

-- ---- by kind

abbrev pub kind_of : Row → ℕ
kind_of r = (encode_row r).kind

-- f of a register's reset, next value and label; d of any other row.
abbrev pub on_register {ℓ} : {A : Type ℓ} → A → (ℕ → ℕ → ℕ → A) → Row → A
on_register d f constant = d
on_register d f (input l p) = d
on_register d f (register r n l) = f r n l
on_register d f (and_gate a b) = d
on_register d f (xor_gate a b) = d
on_register d f (mux_gate a b c) = d
on_register d f (output a l p) = d

-- f of an output's literal, label and phase; d of any other row.
abbrev pub on_output {ℓ} : {A : Type ℓ} → A → (ℕ → ℕ → ℕ → A) → Row → A
on_output d f constant = d
on_output d f (input l p) = d
on_output d f (register r n l) = d
on_output d f (and_gate a b) = d
on_output d f (xor_gate a b) = d
on_output d f (mux_gate a b c) = d
on_output d f (output a l p) = f a l p

abbrev pub is_input : Row → Bool
is_input r = eqb (kind_of r) 1

abbrev pub is_register : Row → Bool
is_register r = eqb (kind_of r) 2

-- A register of unknown reset, an X register.
abbrev pub is_unknown : Row → Bool
is_unknown = on_register false (λ r n l. eqb r 2)

-- A node is a row that is no output.
abbrev pub is_output : Row → Bool
is_output r = eqb (kind_of r) 6

-- ---- names: inputs and outputs have a label and a phase, registers a label and phase 0; the other rows have none

abbrev pub name_of : Row → ℕ × ℕ
name_of constant = (0, 0)
name_of (input l p) = (l, p)
name_of (register r n l) = (l, 0)
name_of (and_gate a b) = (0, 0)
name_of (xor_gate a b) = (0, 0)
name_of (mux_gate a b c) = (0, 0)
name_of (output a l p) = (l, p)

abbrev pub label_of : Row → ℕ
label_of r = (name_of r).0

abbrev pub phase_of : Row → ℕ
phase_of r = (name_of r).1

abbrev pub has_name : Row → Bool
has_name r = is_input r || is_register r || is_output r

-- The row is of this kind and has this label and phase.
abbrev pub is_named : ℕ → ℕ → ℕ → Row → Bool
is_named k l p r = eqb (kind_of r) k && eqb (label_of r) l && eqb (phase_of r) p

-- The first row that passes the test; the number of rows if none does.
abbrev pub first_row : (Row → Bool) → List Row → ℕ
first_row f rows = first_from 0 (length rows) (λ i. f (row_at rows i))

abbrev pub row_named : ℕ → ℕ → ℕ → List Row → ℕ
row_named k l p rows = first_row (is_named k l p) rows

-- The netlist has a row that passes the test: an input of this label and phase, a register or an X register of this label, an output of this label and phase.
abbrev pub has_row : (Row → Bool) → List Row → Bool
has_row f rows = ltb (first_row f rows) (length rows)

abbrev pub HasRow : (Row → Bool) → List Row → Type 0
HasRow f rows = has_row f rows ≡ true

abbrev pub HasInput : List Row → ℕ → ℕ → Type 0
HasInput rows l p = HasRow (is_named 1 l p) rows

abbrev pub HasRegister : List Row → ℕ → Type 0
HasRegister rows l = HasRow (is_named 2 l 0) rows

abbrev pub is_unknown_named : ℕ → Row → Bool
is_unknown_named l r = is_unknown r && eqb (label_of r) l

abbrev pub HasUnknown : List Row → ℕ → Type 0
HasUnknown rows l = HasRow (is_unknown_named l) rows

abbrev pub HasOutput : List Row → ℕ → ℕ → Type 0
HasOutput rows l p = HasRow (is_named 6 l p) rows

-- ---- literals: a literal is 2 × node, plus 1 if inverted

-- A row's literals: a register's next value, a gate's operands, an output's literal.
abbrev pub literals_of : Row → List ℕ
literals_of constant = []
literals_of (input l p) = []
literals_of (register r n l) = n ∷ []
literals_of (and_gate a b) = a ∷ b ∷ []
literals_of (xor_gate a b) = a ∷ b ∷ []
literals_of (mux_gate a b c) = a ∷ b ∷ c ∷ []
literals_of (output a l p) = a ∷ []

-- The nodes that a row names, through operands and next values.
abbrev pub fanin_nodes : Row → List ℕ
fanin_nodes r = map (λ (l : ℕ). l / 2) (literals_of r)

-- The row with f of each of its literals.
abbrev pub map_literals : (ℕ → ℕ) → Row → Row
map_literals f constant = constant
map_literals f (input l p) = input l p
map_literals f (register r n l) = register r (f n) l
map_literals f (and_gate a b) = and_gate (f a) (f b)
map_literals f (xor_gate a b) = xor_gate (f a) (f b)
map_literals f (mux_gate a b c) = mux_gate (f a) (f b) (f c)
map_literals f (output a l p) = output (f a) l p
