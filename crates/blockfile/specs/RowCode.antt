-- The code's row fields as the model's.
-- Assumes nothing.
use Rattle.std.specs.Prelude.{ℕ, ◌+◌, ◌<◌, ◌^◌, cond, List, leb}
use Rattle.memory.specs.Fields.{byte_at, u16_at}
use Rattle.netlist.specs.Rows.{RowFields}
use Rattle.blockfile.specs.declared.Fields.{Fields}

abbrev pub fields_in : Fields → RowFields
fields_in w = record { kind = w.kind; reset = w.reset; a = w.a; b = w.b; c = w.c }

-- The fields in the eight bytes from offset o on.
abbrev pub fields_from : List ℕ → ℕ → RowFields
fields_from f o = record { kind = byte_at f o; reset = byte_at f (o + 1); a = u16_at f (o + 2); b = u16_at f (o + 4); c = u16_at f (o + 6) }

-- Each of the three fields has 16 bits.
pub record Small (w : Fields) : Type 0 where
  pub a_small : w.a < 2 ^ 16
  pub b-small : w.b < 2 ^ 16
  pub c-small : w.c < 2 ^ 16

-- What is answered for a row of kind k: x if the kind is 0 to 6, else what stands for no answer.
abbrev pub if_known : {A : Type 0} → ℕ → A → A → A
if_known k x none = cond (leb k 6) x none
