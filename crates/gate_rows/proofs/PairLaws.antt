-- A row that stands as a pair: its kind and its operands.
-- Assumes nothing.
use Prim.Native.Nat.{ℕ, zero, suc, ◌+◌, ◌-◌, ◌*◌, ◌<◌, ◌≤◌, ◌/◌}
use mathlib.Core.Path.{◌≡◌, refl, ap}
use mathlib.Core.Bool.{Bool, true, false, cond}
use mathlib.Core.List.{List, [], ◌∷◌}
use native.Mathlib.Omega.{arith}
use lib.ListN.{length, get_or}
use lib.Dec.{eqb, leb}
use borrow.Author.Tests.{eqb-true, eqb-false, leb-true, leb-false}
use Rattle.memory.specs.Fields.{u16_at}
use Rattle.netlist.specs.Rows.{Row, constant, input, register, and_gate, output, kind_of}
use Rattle.ordering.specs.GateOrder.{operands_of}
use Rattle.gate_rows.specs.Sources.{pair_row, pair_kind}
use Rattle.gate_rows.specs.declared.Pairs.{Pairs}

-- The same test chooses a kind and a row.
by-test : (P : ℕ → Row → Type 0) (t : Bool) (k k' : ℕ) (x x' : Row) → (t ≡ true → P k x) → (t ≡ false → P k' x') → P (cond t k k') (cond t x x')
by-test P true k k' x x' p q = p refl
by-test P false k k' x x' p q = q refl

module _ (c : Pairs) (s : List ℕ) (r : ℕ) where
  abbrev a : ℕ
  a = u16_at s (4 * r)

  abbrev b : ℕ
  b = u16_at s (4 * r + 2)

  -- What holds of its kind and of itself, if it does for each kind.
  pair-cases : (P : ℕ → Row → Type 0)
      → (r ≡ 0 → P 0 constant)
      → (0 < r → r ≤ c.inputs → P 1 (input (r - 1) 0))
      → (c.inputs < r → r ≤ c.inputs + c.registers → P 2 (register b a (r - 1 - c.inputs)))
      → (c.inputs + c.registers < r → r ≤ c.inputs + c.registers + c.gates → P 3 (and_gate a b))
      → (c.inputs + c.registers + c.gates < r → P 6 (output a (r - 1 - c.inputs - c.registers - c.gates) 0))
      → P (pair_kind c r) (pair_row c s r)
  pair-cases P zero_row inputs registers gates outputs =
      by-test P (eqb r 0) _ _ _ _ (λ e. zero_row (eqb-true r 0 e)) (λ z.
      by-test P (leb r c.inputs) _ _ _ _ (λ e. inputs (let d = eqb-false r 0 z in omega (arith, d)) (leb-true r c.inputs e)) (λ i.
      by-test P (leb r (c.inputs + c.registers)) _ _ _ _ (λ e. registers (leb-false r c.inputs i) (leb-true r (c.inputs + c.registers) e)) (λ g.
      by-test P (leb r (c.inputs + c.registers + c.gates)) _ _ _ _ (λ e. gates (leb-false r (c.inputs + c.registers) g) (leb-true r (c.inputs + c.registers + c.gates) e))
      (λ o. outputs (leb-false r (c.inputs + c.registers + c.gates) o)))))

  pub kind-of-pair : kind_of (pair_row c s r) ≡ pair_kind c r
  kind-of-pair = pair-cases (λ k x. kind_of x ≡ k) (λ _. refl) (λ _ _. refl) (λ _ _. refl) (λ _ _. refl) (λ _. refl)

  -- An operand is a number of the pair.
  pub pair-operand : (i : ℕ) → i < length (operands_of (pair_row c s r)) → (i < 2) × (get_or (operands_of (pair_row c s r)) i 0 ≡ u16_at s (4 * r + 2 * i) / 2)
  pair-operand i = pair-cases (λ _ x. i < length (operands_of x) → (i < 2) × (get_or (operands_of x) i 0 ≡ u16_at s (4 * r + 2 * i) / 2))
      (λ _ l. absurd (omega arith)) (λ _ _ l. absurd (omega arith)) (λ _ _ l. absurd (omega arith)) (λ _ _. number i) (λ _ l. absurd (omega arith))
    where
      number : (j : ℕ) → j < 2 → (j < 2) × (get_or (a / 2 ∷ b / 2 ∷ []) j 0 ≡ u16_at s (4 * r + 2 * j) / 2)
      number zero l = (l, ap (λ (x : ℕ). u16_at s x / 2) (omega arith))
      number (suc zero) l = (l, ap (λ (x : ℕ). u16_at s x / 2) (omega arith))
      number (suc (suc j)) l = absurd (omega arith)
