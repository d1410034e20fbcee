-- What a row asks and gives, by the kind and the fields that are read of it.
-- Assumes nothing.
use Prim.Native.Nat.{ℕ, zero, suc, ◌+◌}
use mathlib.Core.Path.{◌≡◌, refl, ap, ◌∙◌}
use mathlib.Core.Bool.{Bool, false, cond}
use mathlib.Core.List.{List}
use lib.Dec.{eqb}
use Rattle.memory.specs.Fields.{byte_at, u16_at}
use Rattle.netlist.specs.Rows.{Row, row_from_fields, row_at, is_input}
use Rattle.netlist.specs.FileFormat.{row_offset, netlist_of}
use Rattle.netlist.specs.Simulation.{bool_logic, literal_value, row_value, reset_value}
use Rattle.blockfile.specs.RowCode.{if_known}
use Rattle.blockfile.proofs.CountLaws.{SortsBy, sorts-by}
use Rattle.row_values.specs.Values.{bit, bit_byte, no_value, RowToRun}
use Rattle.row_values.proofs.BitLaws.{bit-byte}

-- A row of another kind than 2 starts as 0.
no_register : (k r a b c : ℕ) (u : ℕ → Bool) → (k ≡ 2 → ⊥) → reset_value bool_logic u (row_from_fields k r a b c) ≡ false
no_register zero r a b c u n = refl
no_register (suc zero) r a b c u n = refl
no_register (suc (suc zero)) r a b c u n = absurd (n refl)
no_register (suc (suc (suc zero))) r a b c u n = refl
no_register (suc (suc (suc (suc zero)))) r a b c u n = refl
no_register (suc (suc (suc (suc (suc zero))))) r a b c u n = refl
no_register (suc (suc (suc (suc (suc (suc zero)))))) r a b c u n = refl
no_register (suc (suc (suc (suc (suc (suc (suc k))))))) r a b c u n = refl

module _ (f : List ℕ) (i : ℕ) (R : RowToRun f i) (p : ℕ) (ep : p ≡ row_offset i) (k : ℕ) (ek : k ≡ byte_at f p) where
  abbrev row : Row
  row = row_at (netlist_of f) i

  -- The row's fields, by the byte at which it stands.
  abbrev s : ℕ
  s = byte_at f (p + 1)

  abbrev a : ℕ
  a = u16_at f (p + 2)

  abbrev b : ℕ
  b = u16_at f (p + 4)

  abbrev c : ℕ
  c = u16_at f (p + 6)

  row_read : row ≡ row_from_fields k s a b c
  row_read = rw (ek, ep) R.row_is

  -- ---- the row's value: h what it holds, u the inputs, w the nodes' values

  module _ (h : Bool) (u : ℕ → ℕ → Bool) (w : ℕ → Bool) where
    abbrev Value : ℕ → Type 0
    Value x = x ≡ if_known k (bit_byte (row_value bool_logic h u w row)) no_value

    -- The byte x is the value of literal l.
    abbrev Reads : ℕ → ℕ → Type 0
    Reads l x = x ≡ bit_byte (literal_value bool_logic w l)

    bit-read : (l x : ℕ) → Reads l x → bit x ≡ literal_value bool_logic w l
    bit-read l x e = ap bit e ∙ bit-byte (literal_value bool_logic w l)

    pub value-mux : (m x y r : ℕ) → k ≡ 5 → Reads a m → Reads b x → Reads c y → r ≡ bit_byte (cond (bit m) (bit x) (bit y)) → Value r
    value-mux m x y r e em ex ey er = rw (row_read, e) (er ∙ rw (bit-read a m em, bit-read b x ex, bit-read c y ey))

-- ---- what the row holds, and starts as: its bytes read from p on

module _ (f : List ℕ) (i : ℕ) (R : RowToRun f i) (p : ℕ) (ep : p ≡ row_offset i) where
  read_at : row_at (netlist_of f) i ≡ row_from_fields (byte_at f p) (byte_at f (p + 1)) (u16_at f (p + 2)) (u16_at f (p + 4)) (u16_at f (p + 6))
  read_at = row_read f i R p ep (byte_at f p) refl

  sort : SortsBy (byte_at f p) (byte_at f (p + 1)) (row_at (netlist_of f) i)
  sort = rw read_at (sorts-by (byte_at f p) (byte_at f (p + 1)) (u16_at f (p + 2)) (u16_at f (p + 4)) (u16_at f (p + 6)))

  pub input-is : is_input (row_at (netlist_of f) i) ≡ eqb (byte_at f p) 1
  input-is = sort.input-if
