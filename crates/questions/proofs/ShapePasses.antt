-- Rows in the shape of a file pass questions 6 to 10.
-- Assumes nothing.
use Prim.Native.Nat.{ℕ, zero, suc, ◌<◌, ◌≤◌, ◌/◌}
use mathlib.Core.Path.{◌≡◌, refl, sym, ap, subst}
use mathlib.Core.Bool.{true}
use mathlib.Core.List.{List, map}
use native.Mathlib.Omega.{arith}
use lib.ListN.{length, length-map, get_or-map}
use Rattle.memory.proofs.ListLaws.{count-pos}
use Rattle.netlist.specs.Limits.{most_phases}
use Rattle.netlist.specs.Rows.{Row, RowFields, constant, encode_row, row_at, kind_of, phase_of, is_output}
use Rattle.netlist.specs.FileFormat.{fields_at}
use Rattle.netlist.proofs.RowLaws.{decode-row, decode-rows, kind-le, named-alike}
use Rattle.netlist.specs.WellFormed.{ResetIn, FileShape}
use Rattle.questions.specs.Questions.{no_refusal, kind_right, fields_right, label_is_new, names_earlier, literals_right, rows_refusal}
use Rattle.questions.proofs.PlainWords.{kind_right-iff, fields_right-iff, label_is_new-iff, literals_right-iff, names_earlier-iff}
use Rattle.questions.proofs.AcceptedFiles.{RowsRight, rows-yes}

module _ (rows : List Row) (N : ℕ) (shape : FileShape N rows) (few : N ≤ most_phases) where
  abbrev ws : List RowFields
  ws = map encode_row rows

  fields-are : (y : ℕ) → fields_at ws y ≡ encode_row (row_at rows y)
  fields-are y = get_or-map encode_row rows y constant

  constant-kind : (y : ℕ) → y < length rows → kind_of (row_at rows y) ≡ 0 → y ≡ 0
  constant-kind zero h e = refl
  constant-kind (suc y) h e = absurd (omega (arith, e, shape.solid (suc y) (omega arith) h))

  kind-right : (y : ℕ) → y < length rows → kind_right ws rows y ≡ true
  kind-right y h =
      (kind_right-iff ws rows y).1
      (rw (fields-are y) (record {
        known = kind-le (row_at rows y);
        constant-only = constant-kind y h;
        constant-first = λ e. rw e (ap kind_of shape.constant-first);
        nodes-first = λ e x l. shape.nodes-first y h e x l;
      }))

  fields-right : (r : Row) → ResetIn r → phase_of r < N → fields_right (encode_row r).kind (encode_row r).reset (encode_row r).a (encode_row r).b (encode_row r).c ≡ true
  fields-right r z p =
      (fields_right-iff (encode_row r).kind (encode_row r).reset (encode_row r).a (encode_row r).b (encode_row r).c (kind-le r)).1
      (record { unnamed-zero = ap encode_row (decode-row r); reset-in = subst ResetIn (sym (decode-row r)) z; phase-in = subst (λ (s : Row). phase_of s < most_phases) (sym (decode-row r)) (omega arith) })

  label-new : (y : ℕ) → y < length rows → label_is_new rows y ≡ true
  label-new y h =
      (label_is_new-iff rows y).1 (λ x l t.
      let n = t.1 in
      shape.distinct x y l h (named-alike (row_at rows y) (row_at rows x) n.kind t.0) (record { kind = sym n.kind; label = sym n.label; phase = sym n.phase }))

  literals-right : (y : ℕ) → y < length rows → literals_right names_earlier rows y (row_at rows y) ≡ true
  literals-right y h = (literals_right-iff names_earlier rows y (λ l. l / 2 < y) (names_earlier-iff rows y) (row_at rows y)).1 (shape.literals y h)

  right : RowsRight names_earlier ws
  right =
      let o = shape.some-output in
      record {
        rows = λ y b.
            let h : y < length rows = omega (arith, b, length-map rows encode_row) in
            let d = decode-rows rows in
            record {
              kind = rw d (kind-right y h);
              fields = rw (fields-are y) (fields-right (row_at rows y) (shape.resets y h) (shape.phases y h));
              label = rw d (label-new y h);
              literals = rw d (literals-right y h);
            };
        some-output = rw (decode-rows rows) (count-pos is_output constant rows o.0 o.1 o.2);
      }

  pub shape-passes : rows_refusal names_earlier (map encode_row rows) ≡ no_refusal
  shape-passes = rows-yes names_earlier ws right
