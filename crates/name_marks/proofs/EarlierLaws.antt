-- Question 8 by comparison: a row's name compared with those of the earlier rows in turn.
-- Assumes nothing.
use Prim.Native.Nat.{ℕ, ◌+◌, ◌<◌, ◌≤◌}
use mathlib.Core.Path.{◌≡◌, sym, ap, ap₂, ◌∙◌}
use mathlib.Core.Bool.{Bool, true, false, not}
use mathlib.Core.List.{List}
use native.Mathlib.Omega.{arith}
use lib.ListN.{length}
use Rattle.memory.specs.Lists.{all_below}
use Rattle.memory.proofs.TestLaws.{not-both, fails}
use Rattle.memory.proofs.ListLaws.{all_below-at}
use Rattle.netlist.specs.Limits.{most_rows}
use Rattle.netlist.specs.Rows.{RowFields, Row, decode_row, row_at}
use Rattle.netlist.specs.FileFormat.{row_offset, read_fields, netlist_of}
use Rattle.questions.specs.Questions.{same_name, label_is_new}
use Rattle.blockfile.specs.Ready.{HasRows}

-- The name of row i is none of the first j rows'.
pub record NewBelow (rows : List Row) (i j : ℕ) : Type 0 where
  pub new : all_below j (λ j. not (same_name (row_at rows i) (row_at rows j))) ≡ true

-- A row stands where it can be read.
module _ {f : List ℕ} {n : ℕ} (R : HasRows f n) {i : ℕ} (within : i < n) where
  pub row-few : i < most_rows
  row-few = omega (arith, within, R.few)

  pub row_inside : row_offset i + 8 ≤ length f
  row_inside = R.inside i within

-- Row i, read as v, has the name of row j, read as w.
pub name-found : {f : List ℕ} {n i j : ℕ} → HasRows f n → i < n → j < i → {v w : RowFields} → v ≡ read_fields f i → w ≡ read_fields f j → {t : Bool} → t ≡ same_name (decode_row v) (decode_row w) → t ≡ true → false ≡ label_is_new (netlist_of f) i
name-found {f} {n} {i} {j} R within earlier v-is w-is same e =
    let compared = same ∙ ap₂ same_name (ap decode_row v-is ∙ sym (R.row_is i within)) (ap decode_row w-is ∙ sym (R.row_is j (omega (arith, within, earlier)))) in
    sym (fails (label_is_new (netlist_of f) i) (λ h. not-both _ (all_below-at i (λ j. not (same_name (row_at (netlist_of f) i) (row_at (netlist_of f) j))) h j earlier) (sym compared ∙ e)))
