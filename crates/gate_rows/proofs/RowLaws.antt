-- What code that goes through gates in any order knows: the rows, and the nodes that their operands name.
-- Assumes nothing.
use Prim.Native.Nat.{ℕ, ◌<◌}
use mathlib.Core.Path.{◌≡◌}
use mathlib.Core.Bool.{false}
use mathlib.Core.List.{List, [], ◌∷◌}
use native.Mathlib.Omega.{arith}
use lib.ListN.{length, get_or}
use Rattle.memory.specs.Lists.{Among, here, there}
use Rattle.netlist.specs.Rows.{Row, constant, input, register, and_gate, xor_gate, mux_gate, output, row_at, is_output}
use Rattle.netlist.specs.WellFormed.{NamesNode, OnLiterals, UnorderedRows}
use Rattle.ordering.specs.GateOrder.{operands_of}
use Rattle.ordering.proofs.PlacingLaws.{among-at}
use Rattle.gate_rows.specs.Sources.{source_rows, Source}
use Rattle.gate_rows.specs.declared.Layout.{Layout}

of_two : (P : ℕ → Type 0) (x y : ℕ) → P x → P y → (j : ℕ) → Among j (x ∷ y ∷ []) → P j
of_two P x y p q j here = p
of_two P x y p q j (there here) = q
of_two P x y p q j (there (there a)) = absurd (elim a [ ])

of_three : (P : ℕ → Type 0) (x y z : ℕ) → P x → P y → P z → (j : ℕ) → Among j (x ∷ y ∷ z ∷ []) → P j
of_three P x y z p q r j here = p
of_three P x y z p q r j (there a) = of_two P y z q r j a

-- Row j is a node.
abbrev pub IsNode : List Row → ℕ → Type 0
IsNode rows j = (j < length rows) × (is_output (row_at rows j) ≡ false)

pub operands-nodes : (rows : List Row) (r : Row) → OnLiterals (NamesNode rows) (NamesNode rows) r → (j : ℕ) → Among j (operands_of r) → IsNode rows j
operands-nodes rows constant n j a = absurd (elim a [ ])
operands-nodes rows (input _ _) n j a = absurd (elim a [ ])
operands-nodes rows (register _ _ _) n j a = absurd (elim a [ ])
operands-nodes rows (and_gate x y) n j a = of_two (IsNode rows) _ _ n.0 n.1 j a
operands-nodes rows (xor_gate x y) n j a = of_two (IsNode rows) _ _ n.0 n.1 j a
operands-nodes rows (mux_gate x y z) n j a = of_three (IsNode rows) _ _ _ n.0.0 n.0.1 n.1 j a
operands-nodes rows (output _ _ _) n j a = absurd (elim a [ ])

pub operand_below : (rows : List Row) → UnorderedRows rows → (i : ℕ) → i < length rows → (x : ℕ) → Among x (operands_of (row_at rows i)) → x < length rows
operand_below rows U i l x a = (operands-nodes rows (row_at rows i) (U.operands i l) x a).0

-- The same of operand number k.
pub operand_row : (rows : List Row) → UnorderedRows rows → (x k : ℕ) → x < length rows → k < length (operands_of (row_at rows x)) → get_or (operands_of (row_at rows x)) k 0 < length rows
operand_row rows U x k h l = operand_below rows U x h (get_or (operands_of (row_at rows x)) k 0) (among-at k (operands_of (row_at rows x)) l)

-- A source of n rows: as many as there are.
module _ (l : Layout) (s : List ℕ) (n : ℕ) (S : Source l s n) where
  pub row_inside : (i : ℕ) → i < n → i < length (source_rows l s)
  row_inside i h = omega (arith, S.count)
