-- The pairs that are left of a text's names are its rows.
-- Assumes nothing.
use Prim.Native.Nat.{ℕ, ◌+◌, ◌-◌, ◌<◌, ◌≤◌}
use mathlib.Core.Path.{◌≡◌, refl, sym, ap, ◌∙◌}
use mathlib.Core.Bool.{true}
use mathlib.Core.List.{List}
use native.Mathlib.Omega.{arith}
use lib.ListN.{length}
use lib.Seq.{ext_get_or}
use borrow.Author.Tests.{le-leb, lt-leb, ne_eqb}
use Rattle.netlist.specs.Limits.{most_rows}
use Rattle.netlist.specs.Rows.{constant, row_at}
use Rattle.aiger.specs.AigerText.{Aiger, line_count, node_count, aiger_right}
use Rattle.aiger.specs.AigerText as model
use Rattle.aiger.specs.AigerRows.{aiger_rows}
use Rattle.aiger.proofs.AigerFacts.{RowPlaces}
use Rattle.aiger.proofs.NodeLaws.{row-places, each-place}
use Rattle.aiger.proofs.RowLaws.{aiger-unordered}
use Rattle.gate_rows.specs.Sources.{pair_row, pair_rows, source_rows, Source}
use Rattle.gate_rows.proofs.SourceLaws.{pairs-are, pair-rows-length, pair-row-at, pairs-source}
use Rattle.gate_rows.specs.declared.Pairs.{Pairs}
use Rattle.gate_rows.specs.declared.Layout.TheVariants as layout
use Rattle.aiger_lines.specs.Lines.{header_in}
use Rattle.aiger_lines.specs.declared.Header.{Header}
use Rattle.aiger_names.specs.Names.{name_bytes, PairsStand}
use Rattle.import.specs.ImportParts.{pairs_in}

module _ (a : Aiger) (w : List ℕ) (S : PairsStand a w) where
  abbrev c : Pairs
  c = record { inputs = a.header.inputs; registers = a.header.latches; gates = a.header.gates; outputs = a.header.outputs }

  abbrev I : ℕ
  I = a.header.inputs

  abbrev L : ℕ
  L = a.header.latches

  abbrev A : ℕ
  A = a.header.gates

  abbrev O : ℕ
  O = a.header.outputs

  abbrev R : RowPlaces a
  R = row-places a

  pair_is : (r : ℕ) → r < node_count a.header + O → pair_row c w r ≡ row_at (aiger_rows a) r
  pair_is =
      each-place a (λ r. pair_row c w r ≡ row_at (aiger_rows a) r)
      (sym R.constant-at)
      input-is latch-is gate-is output-is
    where
      input-is : (j : ℕ) → j < I → pair_row c w (1 + j) ≡ row_at (aiger_rows a) (1 + j)
      input-is j h = let e : 1 + j - 1 ≡ j = omega arith in rw (R.input-at j h, ne_eqb (1 + j) 0 (λ z. omega arith), le-leb (1 + j) I (omega arith), e) refl

      latch-is : (j : ℕ) → j < L → pair_row c w (1 + I + j) ≡ row_at (aiger_rows a) (1 + I + j)
      latch-is j h =
          let e : 1 + I + j - 1 - I ≡ j = omega arith in
          rw (R.latch-at j h, S.nexts j h, S.resets j h, ne_eqb (1 + I + j) 0 (λ z. omega arith), lt-leb (1 + I + j) I (omega arith), le-leb (1 + I + j) (I + L) (omega arith), e) refl

      gate-is : (j : ℕ) → j < A → pair_row c w (1 + I + L + j) ≡ row_at (aiger_rows a) (1 + I + L + j)
      gate-is j h =
          rw (R.gate-at j h, S.firsts j h, S.seconds j h, ne_eqb (1 + I + L + j) 0 (λ z. omega arith), lt-leb (1 + I + L + j) I (omega arith), lt-leb (1 + I + L + j) (I + L) (omega arith), le-leb (1 + I + L + j) (I + L + A) (omega arith)) refl

      output-is : (j : ℕ) → j < O → pair_row c w (node_count a.header + j) ≡ row_at (aiger_rows a) (node_count a.header + j)
      output-is j h =
          let n = node_count a.header + j in
          let e : n - 1 - I - L - A ≡ j = omega arith in
          rw (R.output-at j h, S.outputs j h, ne_eqb n 0 (λ z. omega arith), lt-leb n I (omega arith), lt-leb n (I + L) (omega arith), lt-leb n (I + L + A) (omega arith), e) refl

  -- The rows that stand as pairs are those of the text.
  pub text-pairs : pair_rows c w ≡ aiger_rows a
  text-pairs =
      let n = pair-rows-length c w in
      ext_get_or constant (pair_rows c w) (aiger_rows a) (omega (arith, n, R.count)) (λ i h. pair-row-at c w i (omega (arith, h, n)) ∙ pair_is i (omega (arith, h, n)))

-- The same by the code's header.
module _ (a : Aiger) (w : List ℕ) (S : PairsStand a w) (x : Header) (is : header_in x ≡ a.header) where
  counts-are : pairs_in x ≡ c a w S
  counts-are = ap (λ (y : model.Header). record { inputs = y.inputs; registers = y.latches; gates = y.gates; outputs = y.outputs }) is

  pairs-text : pair_rows (pairs_in x) w ≡ aiger_rows a
  pairs-text = ap (λ (y : Pairs). pair_rows y w) counts-are ∙ text-pairs a w S

  pub source-are : source_rows (layout.Pairs (pairs_in x)) w ≡ aiger_rows a
  source-are = pairs-are (pairs_in x) w ∙ pairs-text

  -- So the sorter may take them.
  pub text-source : aiger_right a ≡ true → (n : ℕ) → n ≡ 1 + line_count (header_in x) → n ≤ most_rows → name_bytes ≤ length w → Source (layout.Pairs (pairs_in x)) w n
  text-source right n e few long = pairs-source (pairs_in x) w n (omega (arith, e)) few (omega (arith, few, long)) (rw pairs-text (aiger-unordered a right))
