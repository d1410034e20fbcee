-- The tests of a row, by its kind.
-- Assumes nothing.
use Prim.Native.Nat.{ℕ, zero, suc, ◌<◌, ◌≤◌}
use mathlib.Core.Path.{◌≡◌, refl, sym, ap, ◌∙◌}
use mathlib.Core.Logic.{◌⊎◌, inl, inr, ⊎_elim}
use mathlib.Core.Bool.{false, cond, not, ◌&&◌, ◌||◌}
use mathlib.Core.List.{List}
use native.Mathlib.Omega.{arith}
use lib.ListN.{take}
use lib.Dec.{eqb, ltb}
use borrow.Author.Tests.{le-leb}
use Rattle.netlist.specs.Rows.{Row, row_from_fields, decode_row, label_of, has_name}
use Rattle.netlist.specs.FileFormat.{netlist_of}
use Rattle.questions.specs.Questions.{fields_right, literals_right}
use Rattle.questions.proofs.PlainWords.{fields_right-iff}
use Rattle.questions.proofs.AcceptedFiles.{Operand}
use Rattle.blockfile.specs.declared.Fields.{Fields}
use Rattle.blockfile.specs.RowCode.{fields_in, Small}
use Rattle.blockfile.specs.Ready.{HasRows}
use Rattle.row_questions.specs.declared.RowTests.{RowTests}
use Rattle.row_questions.specs.Slots.{labels, slot_of}
use Rattle.row_questions.specs.Tally.{output_tally, row_tally, tally_of}
use Rattle.row_questions.specs.RowTested.{TestsOf}
use Rattle.row_questions.proofs.TallyLaws.{only-tally}
use Rattle.row_questions.proofs.NameLaws.{slot_small}

label-fits : (w : Fields) → Small w → label_of (decode_row (fields_in w)) < labels
label-fits w s = go w.kind
  where
    go : (k : ℕ) → label_of (row_from_fields k w.reset w.a w.b w.c) < labels
    go zero = omega arith
    go (suc zero) = s.a_small
    go (suc (suc zero)) = s.b-small
    go (suc (suc (suc zero))) = omega arith
    go (suc (suc (suc (suc zero)))) = omega arith
    go (suc (suc (suc (suc (suc zero))))) = omega arith
    go (suc (suc (suc (suc (suc (suc zero)))))) = s.b-small
    go (suc (suc (suc (suc (suc (suc (suc k))))))) = omega arith

-- The row of these fields, if its kind is k.
abbrev row_of : ℕ → Fields → Row
row_of k w = row_from_fields k w.reset w.a w.b w.c

-- Row i of n, with these fields; the tally is that of the rows before it.
module _ {operand : Operand} {f : List ℕ} {n : ℕ} (R : HasRows f n) {i : ℕ} (within : i < n) {tally : ℕ} (tally-is : tally ≡ tally_of (take i (netlist_of f))) {w : Fields} (small : Small w) (t : RowTests) where
  -- Of kind k, which is 0 to 6.
  pub tests-of : (k : ℕ) → k ≤ 6 → w.kind ≡ k → t.kind ≡ cond (eqb k 0) (eqb i 0) (not (eqb i 0)) && (eqb k 6 || ltb tally output_tally) → t.fields ≡ fields_right k w.reset w.a w.b w.c → t.named ≡ has_name (row_of k w)
      → t.slot ≡ slot_of (row_of k w) → t.literals ≡ literals_right operand (netlist_of f) i (row_of k w) → t.tally ≡ row_tally (row_of k w) → TestsOf operand (netlist_of f) i (fields_in w) t
  tests-of k h e kind fields named slot literals added =
      let only = only-tally (netlist_of f) i tally (omega (arith, within, R.count)) (omega (arith, within, R.few)) tally-is in
      let six : w.kind ≤ 6 = omega (arith, h, e) in
      record {
        kind = rw (e, only, le-leb k 6 h) kind;
        fields = λ _. rw e fields;
        named = λ _. rw e named;
        slot = λ _. rw e slot;
        slot-fits = λ _ q. omega (arith, ap (λ (j : ℕ). slot_of (row_of j w)) e, slot, slot_small (decode_row (fields_in w)) (label-fits w small) ((fields_right-iff w.kind w.reset w.a w.b w.c six).0 (rw e (sym fields ∙ q))).phase-in);
        literals = λ _. rw e literals;
        tally = rw e added;
      }

  -- Of kind 3 or 4: the arms of the kinds before leave these two.
  pub tests-gate : (w.kind ≡ 0 → ⊥) → (w.kind ≡ 1 → ⊥) → (w.kind ≡ 2 → ⊥) → w.kind < 5 → t.kind ≡ not (eqb i 0) && ltb tally output_tally → t.fields ≡ eqb w.reset 0 && eqb w.c 0 → t.named ≡ false
      → t.slot ≡ 0 → t.literals ≡ operand (netlist_of f) i w.a && operand (netlist_of f) i w.b → t.tally ≡ 0 → TestsOf operand (netlist_of f) i (fields_in w) t
  tests-gate a b c h kind fields named slot literals added =
      ⊎_elim (λ e. tests-of 3 (omega arith) e kind fields named slot literals added) (λ e. tests-of 4 (omega arith) e kind fields named slot literals added) (go w.kind a b c h)
    where
      go : (k : ℕ) → (k ≡ 0 → ⊥) → (k ≡ 1 → ⊥) → (k ≡ 2 → ⊥) → k < 5 → (k ≡ 3) ⊎ (k ≡ 4)
      go zero a b c h = absurd (a refl)
      go (suc zero) a b c h = absurd (b refl)
      go (suc (suc zero)) a b c h = absurd (c refl)
      go (suc (suc (suc zero))) a b c h = inl refl
      go (suc (suc (suc (suc zero)))) a b c h = inr refl
      go (suc (suc (suc (suc (suc k))))) a b c h = absurd (omega arith)
