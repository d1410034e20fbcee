-- A row's kind and operands where they stand, by its layout.
-- Assumes nothing.
use Prim.Native.Nat.{ℕ, zero, suc, ◌+◌, ◌*◌, ◌<◌, ◌≤◌, ◌/◌, ◌^◌}
use mathlib.Core.Path.{◌≡◌, refl, sym, ap, ◌∙◌, subst}
use mathlib.Core.List.{List, [], ◌∷◌}
use native.Mathlib.Omega.{arith}
use lib.ListN.{length, get_or}
use Rattle.memory.specs.Fields.{u16_at}
use Rattle.netlist.specs.Rows.{Row, RowFields, constant, input, register, and_gate, xor_gate, mux_gate, output, encode_row, row_at, kind_of}
use Rattle.netlist.specs.FileFormat.{row_offset, read_fields}
use Rattle.ordering.specs.GateOrder.{operands_of}
use Rattle.gate_rows.specs.Sources.{pair_kind, operand_offset, source_rows, Source}
use Rattle.gate_rows.specs.declared.Pairs.{Pairs}
use Rattle.gate_rows.specs.declared.Layout.{Layout}
use Rattle.gate_rows.specs.declared.Layout.TheVariants as layout
use Rattle.gate_rows.proofs.PairLaws.{kind-of-pair, pair-operand}
use Rattle.gate_rows.proofs.SourceLaws.{file-inside, file-fields, pair_is, pair-stands}

-- ---- the kind of a pair

pub pair-kind-is : (l : Layout) (s : List ℕ) (row : ℕ) → Source l s (length (source_rows l s)) → row < length (source_rows l s) → (c : Pairs) → l ≡ layout.Pairs c → (k : ℕ) → k ≡ pair_kind c row → k ≡ kind_of (row_at (source_rows l s) row)
pair-kind-is l s row S h c e k q = q ∙ sym (ap kind_of (pair_is l s row S h c e) ∙ kind-of-pair c s row)

-- ---- where they stand

-- Field number i of a row.
abbrev field_of : RowFields → ℕ → ℕ
field_of w i = get_or (w.a ∷ w.b ∷ w.c ∷ []) i 0

-- The operands are the first fields.
operand-field : (r : Row) (i : ℕ) → i < length (operands_of r) → get_or (operands_of r) i 0 ≡ field_of (encode_row r) i / 2
operand-field constant i l = absurd (omega arith)
operand-field (input _ _) i l = absurd (omega arith)
operand-field (register _ _ _) i l = absurd (omega arith)
operand-field (and_gate _ _) zero l = refl
operand-field (and_gate _ _) (suc zero) l = refl
operand-field (and_gate _ _) (suc (suc i)) l = absurd (omega arith)
operand-field (xor_gate _ _) zero l = refl
operand-field (xor_gate _ _) (suc zero) l = refl
operand-field (xor_gate _ _) (suc (suc i)) l = absurd (omega arith)
operand-field (mux_gate _ _ _) zero l = refl
operand-field (mux_gate _ _ _) (suc zero) l = refl
operand-field (mux_gate _ _ _) (suc (suc zero)) l = refl
operand-field (mux_gate _ _ _) (suc (suc (suc i))) l = absurd (omega arith)
operand-field (output _ _ _) i l = absurd (omega arith)

field_at : (s : List ℕ) (row i : ℕ) → i < 3 → field_of (read_fields s row) i ≡ u16_at s (row_offset row + 2 + 2 * i)
field_at s row zero l = ap (u16_at s) (omega arith)
field_at s row (suc zero) l = ap (u16_at s) (omega arith)
field_at s row (suc (suc zero)) l = ap (u16_at s) (omega arith)
field_at s row (suc (suc (suc i))) l = absurd (omega arith)

module _ (l : Layout) (s : List ℕ) (row : ℕ) (S : Source l s (length (source_rows l s))) (h : row < length (source_rows l s)) (i : ℕ) (few : i < 3) (k : i < length (operands_of (row_at (source_rows l s) row))) where
  abbrev operand : ℕ
  operand = get_or (operands_of (row_at (source_rows l s) row)) i 0

  -- It stands in the source, and is read there.
  reads : (x : Layout) → l ≡ x → (operand_offset x row i + 2 ≤ length s) × (u16_at s (operand_offset x row i) / 2 ≡ operand)
  reads layout.File e = (
    omega (arith, file-inside l s row S h e, few),
    sym (operand-field (row_at (source_rows l s) row) i k ∙ ap (λ (w : RowFields). field_of w i / 2) (file-fields l s row S h e) ∙ ap (λ (v : ℕ). v / 2) (field_at s row i few)),
  )
  reads (layout.Pairs c) e =
      let p = pair_is l s row S h c e in
      let q = pair-operand c s row i (subst (λ (r : Row). i < length (operands_of r)) p k) in
      (omega (arith, (pair-stands l s row S h c e).room, q.0), sym (ap (λ (r : Row). get_or (operands_of r) i 0) p ∙ q.1))

  module _ (at : ℕ) (p : at ≡ operand_offset l row i) where
    pub operand-inside : at + 2 ≤ length s
    operand-inside = omega (arith, p, (reads l refl).0)

    pub operand-is : (v : ℕ) → v ≡ u16_at s at → v / 2 ≡ get_or (operands_of (row_at (source_rows l s) row)) i 0
    operand-is v q = ap (λ (x : ℕ). x / 2) (q ∙ ap (u16_at s) p) ∙ (reads l refl).1

pub half-small : (v : ℕ) → v < 2 ^ 16 → v / 2 < 2 ^ 15
half-small v h = omega (arith, h)
