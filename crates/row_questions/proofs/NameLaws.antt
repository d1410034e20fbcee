-- The sort of a row by its fields, and the slots of names.
-- Assumes nothing.
use Prim.Native.Nat.{◌<◌}
use mathlib.Core.Path.{◌≡◌, refl}
use mathlib.Core.Bool.{Bool, true, false, ◌&&◌}
use native.Mathlib.Omega.{arith}
use Rattle.netlist.specs.Limits.{most_phases}
use Rattle.netlist.specs.Rows.{RowFields, Row, constant, input, register, and_gate, xor_gate, mux_gate, output, decode_row, label_of, phase_of}
use Rattle.netlist.specs.WellFormed.{SameName}
use Rattle.blockfile.proofs.CountLaws.{SortsBy, sorts-by}
use Rattle.row_questions.specs.Slots.{labels, all_slots, slot_of}

pub and_yes : (t : Bool) → t ≡ t && true
and_yes true = refl
and_yes false = refl

pub sorts-of : (w : RowFields) → SortsBy w.kind w.reset (decode_row w)
sorts-of w = sorts-by w.kind w.reset w.a w.b w.c

-- ---- slots

pub slot_small : (r : Row) → label_of r < labels → phase_of r < most_phases → slot_of r < all_slots
slot_small constant l p = omega arith
slot_small (input _ _) l p = omega arith
slot_small (register _ _ _) l p = omega arith
slot_small (and_gate _ _) l p = omega arith
slot_small (xor_gate _ _) l p = omega arith
slot_small (mux_gate _ _ _) l p = omega arith
slot_small (output _ _ _) l p = omega arith

-- Rows of the same name have the same slot.
pub same-slot : (q r : Row) → SameName q r → slot_of q ≡ slot_of r
same-slot q r e = rw (e.kind, e.label, e.phase)
