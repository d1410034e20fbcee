-- The sources numbered, and the gates that name them alone found.
-- Assumes nothing.
use Prim.Native.Nat.{ℕ, ◌+◌, ◌<◌, ◌≤◌}
use mathlib.Core.Path.{◌≡◌, refl, sym, ap, ◌∙◌}
use mathlib.Core.Bool.{Bool, true, false, cond, not, ◌||◌, true≢false}
use mathlib.Core.List.{List, [], ◌∷◌}
use native.Mathlib.Omega.{arith}
use native.Mathlib.Decide.{ℕ_discrete}
use lib.ListN.{length, replicate}
use lib.Dec.{eqb, leb, ltb}
use borrow.Author.Tests.{eq-eqb, ne_eqb, le-leb, lt-ltb, le-ltb}
use Rattle.memory.proofs.TestLaws.{fails}
use Rattle.memory.proofs.ListLaws.{join-cong}
use Rattle.memory.proofs.SlotLaws.{slots-cleared}
use Rattle.netlist.specs.Rows.{Row, constant, input, register, and_gate, xor_gate, mux_gate, output, row_at, is_output}
use Rattle.ordering.specs.GateOrder.{is_gate, is_source, is_in, rows_that, new_number}
use Rattle.ordering.proofs.PlacingLaws.{in-of, in_is}
use Rattle.ordering.proofs.OrderLaws.{below-is, below_in, source-no-gate}
use Rattle.ready_gates.specs.ReadySlots.{ready_slot}
use Rattle.gate_rows.specs.Sources.{source_rows, Source}
use Rattle.gate_rows.specs.declared.Layout.{Layout}
use Rattle.gate_rows.proofs.RowLaws.{operands-nodes}
use Rattle.gate_numbers.specs.Numbers.{placed_slot, is_placed_in, of_kinds, KindsFit, KindsNumbered, SourcesNumbered, gate_of, Woken, Placed}
use Rattle.gate_numbers.proofs.NumberLaws.{ltb-more, below-le}
use Rattle.gate_numbers.proofs.WakingLaws.{gate-cong, woken-none, woken-join}

-- ---- kinds

source-kinds : (r : Row) → of_kinds 0 2 r ≡ is_source r
source-kinds constant = refl
source-kinds (input _ _) = refl
source-kinds (register _ _ _) = refl
source-kinds (and_gate _ _) = refl
source-kinds (xor_gate _ _) = refl
source-kinds (mux_gate _ _ _) = refl
source-kinds (output _ _ _) = refl

pub output-kinds : (r : Row) → of_kinds 6 6 r ≡ is_output r
output-kinds constant = refl
output-kinds (input _ _) = refl
output-kinds (register _ _ _) = refl
output-kinds (and_gate _ _) = refl
output-kinds (xor_gate _ _) = refl
output-kinds (mux_gate _ _ _) = refl
output-kinds (output _ _ _) = refl

-- A node that is no gate is a source.
pub node-kinds : (r : Row) → is_output r ≡ false → is_source r ≡ not (is_gate r)
node-kinds constant o = refl
node-kinds (input _ _) o = refl
node-kinds (register _ _ _) o = refl
node-kinds (and_gate _ _) o = refl
node-kinds (xor_gate _ _) o = refl
node-kinds (mux_gate _ _ _) o = refl
node-kinds (output _ _ _) o = absurd (true≢false o)

pub same_rows : (rows : List Row) (f g : Row → Bool) → ((r : Row) → f r ≡ g r) → rows_that rows f ≡ rows_that rows g
same_rows rows f g h = join-cong (length rows) (λ i. cond (f (row_at rows i)) (i ∷ []) []) (λ i. cond (g (row_at rows i)) (i ∷ []) []) (λ i l. ap (λ (t : Bool). cond t (i ∷ []) []) (h (row_at rows i)))

module _ (rows : List Row) where
  abbrev pub sources : List ℕ
  sources = rows_that rows is_source

  pub in_rows : (f : Row → Bool) (i : ℕ) → i < length rows → is_in i (rows_that rows f) ≡ f (row_at rows i)
  in_rows f i l = go (f (row_at rows i)) refl
    where
      go : (t : Bool) → f (row_at rows i) ≡ t → is_in i (rows_that rows f) ≡ t
      go true e = in-of i (rows_that rows f) (below_in rows f (length rows) i l e)
      go false e = fails (is_in i (rows_that rows f)) (λ a. true≢false (sym (below-is rows f (length rows) i (in_is i (rows_that rows f) a)).1 ∙ e))

  pub gate-no-source : (i : ℕ) → i < length rows → is_gate (row_at rows i) ≡ true → is_in i sources ≡ false
  gate-no-source i l g = in_rows is_source i l ∙ fails (is_source (row_at rows i)) (λ s. source-no-gate (row_at rows i) s g)

-- ---- every row looked at, from the first on

abbrev pub rows_below : ℕ → ℕ → Bool
rows_below row i = ltb i row

below_more : (i x : ℕ) → ltb i (x + 1) ≡ eqb x i || ltb i x
below_more i x = elim (ℕ_discrete i x) [ yes e ↦ rw (e, lt-ltb x (x + 1) (omega arith), eq-eqb x x refl) | no d ↦ rw (ne_eqb x i (λ z. d (sym z))) (ltb-more i x d) ]

-- In a source of n rows.
module _ (layout : Layout) (f : List ℕ) (n : ℕ) (F : Source layout f n) where
  abbrev rows : List Row
  rows = source_rows layout f

  abbrev S : List ℕ
  S = sources rows

  pub kinds-fit : (least most : ℕ) → KindsFit rows least most 0 n
  kinds-fit least most = record { upto = omega (arith, F.count, below-le rows (of_kinds least most) (length rows)) }

  pub sources-count : (r : ℕ) → r ≡ 0 + length (rows_that rows (of_kinds 0 2)) → r ≡ length S
  sources-count r e = omega (arith, e, ap length (same_rows rows (of_kinds 0 2) is_source source-kinds))

  -- In memory that was cleared.
  pub sources-numbered : (w₀ w : List ℕ) (m : ℕ) → KindsNumbered rows 0 2 0 w₀ w → w₀ ≡ replicate m 0 → SourcesNumbered rows w
  sources-numbered w₀ w m K z = record {
    slots = λ i l.
        let e : 0 + new_number S i ≡ new_number S i = omega arith in
        K.slots i l
        ∙ rw (source-kinds (row_at rows i), same_rows rows (of_kinds 0 2) is_source source-kinds, slots-cleared w₀ m z i, in_rows rows is_source i l, e);
  }

  pub found_none : (w : List ℕ) → Woken rows (rows_below 0) w w
  found_none w = woken-none rows (rows_below 0) w (λ i l. le-ltb i 0 (omega arith))

  module _ (w₀ w : List ℕ) (row : ℕ) (W : Woken rows (rows_below row) w₀ w) (N : SourcesNumbered rows w₀) where
    pub found-more : (w' : List ℕ) → Woken rows (eqb row) w w' → Woken rows (rows_below (row + 1)) w₀ w'
    found-more w' X =
        woken-join rows (rows_below row) (eqb row) (rows_below (row + 1)) w₀ w w' F.rows.operands (λ i l. below_more i row)
        (record { slots = λ i l _ g. N.slots i l ∙ rw (gate-no-source rows i l g) }) W X

    source-placed : (j : ℕ) → j < length rows → is_placed_in w₀ j ≡ is_in j S
    source-placed j l = ap (leb placed_slot) (N.slots j l) ∙ go (is_in j S)
      where
        go : (t : Bool) → leb placed_slot (cond t (placed_slot + new_number S j) 0) ≡ t
        go true = le-leb placed_slot (placed_slot + new_number S j) (omega arith)
        go false = refl

    pub found_all : n ≤ row → Placed rows S w
    found_all h = record { slots = λ i l. W.slots i l ∙ rw (lt-ltb i row (omega (arith, F.count)), ready-same i l, N.slots i l) (go i l (is_in i S) refl) }
      where
        ready-same : (i : ℕ) → i < length rows → gate_of rows (is_placed_in w₀) i ≡ gate_of rows (λ j. is_in j S) i
        ready-same i l = gate-cong rows (is_placed_in w₀) (λ j. is_in j S) i (λ j a. source-placed j (operands-nodes rows (row_at rows i) (F.rows.operands i l) j a).0)

        go : (i : ℕ) → i < length rows → (t : Bool) → is_in i S ≡ t → cond (gate_of rows (λ j. is_in j S) i) ready_slot (cond t (placed_slot + new_number S i) 0) ≡ cond t (placed_slot + new_number S i) (cond (gate_of rows (λ j. is_in j S) i) ready_slot 0)
        go i l true e = rw (fails (is_gate (row_at rows i)) (λ g. true≢false (sym e ∙ gate-no-source rows i l g)))
        go i l false e = refl
