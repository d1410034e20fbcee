-- The rows that the walk goes through: their number, their operands, and their slots before any walk.
-- Assumes nothing.
use Prim.Native.Nat.{ℕ, ◌+◌, ◌*◌, ◌<◌, ◌≤◌}
use mathlib.Core.Path.{◌≡◌, refl, sym, ap, ◌∙◌}
use mathlib.Core.Bool.{Bool, true, false, cond, false≢true}
use mathlib.Core.List.{List, []}
use native.Mathlib.Omega.{arith}
use lib.ListN.{length, get_or}
use Rattle.memory.specs.Lists.{Among}
use Rattle.memory.specs.Slots.{slot_at}
use Rattle.netlist.specs.Rows.{Row, row_at, fanin_nodes}
use Rattle.netlist.specs.WellFormed.{UnorderedRows}
use Rattle.ordering.specs.GateOrder.{is_gate, operands_of}
use Rattle.ordering.proofs.PlacingLaws.{among-at, at_of}
use Rattle.gate_rows.specs.Sources.{source_rows, Source}
use Rattle.gate_rows.specs.declared.Layout.{Layout}
use Rattle.gate_rows.proofs.RowLaws.{operand_below, row_inside}
use Rattle.gate_loops.specs.Walk.{settled_slot, first_slot, Unsettled}

-- ---- operands

-- What has an operand is a gate.
pub operand-words : (r : Row) (x : ℕ) → Among x (operands_of r) → (is_gate r ≡ true) × Among x (fanin_nodes r)
operand-words r x a = go (is_gate r) refl a
  where
    go : (t : Bool) → is_gate r ≡ t → Among x (cond t (fanin_nodes r) []) → (is_gate r ≡ true) × Among x (fanin_nodes r)
    go true e b = (e, b)
    go false e b = absurd (elim b [ ])

-- Row 0 is the constant.
pub first-no-gate : (rows : List Row) → UnorderedRows rows → ¬ (is_gate (row_at rows 0) ≡ true)
first-no-gate rows U g = false≢true (sym (ap is_gate U.constant-first) ∙ g)

-- ---- the slots before any walk

-- The slots before m are set.
pub record SetBelow (rows : List Row) (w : List ℕ) (m : ℕ) : Type 0 where
  pub slots : (x : ℕ) → x < m → slot_at w x ≡ first_slot (row_at rows x)

-- ---- the first operand that is not settled

module _ (layout : Layout) (f : List ℕ) (n : ℕ) (Q : Source layout f n) where
  module _ (row : ℕ) (h : row < n) where
    abbrev operands : List ℕ
    operands = operands_of (row_at (source_rows layout f) row)

    module _ (count index node : ℕ) (size : count ≡ length operands) (l : index < count) (e : node ≡ get_or operands index 0) where
      named : Among node operands
      named = rw e (among-at index operands (omega arith))

      node-inside : node < length (source_rows layout f)
      node-inside = operand_below (source_rows layout f) Q.rows row (row_inside layout f n Q row h) node named

      pub node-room : (w : List ℕ) → 2 * n ≤ length w → 2 * node + 2 ≤ length w
      node-room w k = omega (arith, node-inside, Q.count)

      pub node-unsettled : (w : List ℕ) (s : ℕ) → s ≡ slot_at w node → ¬ (s ≡ settled_slot) → Unsettled (source_rows layout f) w row node
      node-unsettled w s q d = record {
        inside = node-inside;
        none = λ z k. absurd (d (q ∙ ap (slot_at w) z ∙ k));
        some = λ _. (named, λ k. d (q ∙ k));
      }

-- The operands before number m are settled.
pub record PassedBelow (rows : List Row) (w : List ℕ) (i m : ℕ) : Type 0 where
  pub settled : (k : ℕ) → k < m → slot_at w (get_or (operands_of (row_at rows i)) k 0) ≡ settled_slot

pub passed_none : (rows : List Row) (w : List ℕ) (i : ℕ) → PassedBelow rows w i 0
passed_none rows w i = record { settled = λ k h. absurd (omega arith) }

pub all-passed : (layout : Layout) (f : List ℕ) (n : ℕ) → Source layout f n → (w : List ℕ) (row m count : ℕ) → row < n → count ≡ length (operands_of (row_at (source_rows layout f) row)) → count ≤ m → PassedBelow (source_rows layout f) w row m → Unsettled (source_rows layout f) w row 0
all-passed layout f n Q w row m count h e l P = record {
  inside = omega (arith, Q.count);
  none = λ _ _ j a.
      let r = at_of j (operands_of (row_at (source_rows layout f) row)) a in
      ap (slot_at w) (sym r.2) ∙ P.settled r.0 (omega (arith, r.1));
  some = λ z. absurd (z refl);
}
