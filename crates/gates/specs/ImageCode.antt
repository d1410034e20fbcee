-- The model's images as the code has them.
-- Assumes nothing.
use Rattle.std.specs.Prelude.{ℕ, min, max}
use Rattle.netlist.specs.Rows.{RowFields, encode_row}
use Rattle.abstraction.specs.GateMaking.{Image, existing, new_row}
use Rattle.gates.specs.declared.MadeRow.{MadeRow}
use Rattle.gates.specs.declared.MadeImage.{MadeImage}
use Rattle.gates.specs.declared.MadeImage.TheVariants.{Existing, NewRow}

-- A new row with these fields, and the fields of a new row.
abbrev pub made_row : RowFields → MadeRow
made_row w = record { kind = w.kind; reset = w.reset; a = w.a; b = w.b; c = w.c }

abbrev pub made_fields : MadeRow → RowFields
made_fields x = record { kind = x.kind; reset = x.reset; a = x.a; b = x.b; c = x.c }

-- The image has the fields of the model's row.
abbrev pub image_code : Image → MadeImage
image_code (existing l) = Existing l
image_code (new_row r b) = NewRow (made_row (encode_row r)) b

-- A new gate of two operands, the smaller first.
abbrev pub pair_code : ℕ → ℕ → ℕ → ℕ → MadeImage
pair_code k a b n = NewRow (record { kind = k; reset = 0; a = min a b; b = max a b; c = 0 }) n
