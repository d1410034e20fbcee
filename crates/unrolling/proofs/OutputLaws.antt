-- The output of one row in one phase: a row appended to those in `result`, or none.
-- Assumes nothing.
use Prim.Native.Nat.{ℕ, zero, suc, ◌+◌, ◌<◌, ◌≤◌}
use mathlib.Core.Path.{◌≡◌, refl, sym, ap, ◌∙◌, subst}
use mathlib.Core.List.{List, [], ◌∷◌}
use native.Mathlib.Omega.{arith}
use lib.ListN.{length, get_or}
use lib.Seq.{sets}
use Rattle.memory.specs.Lists.{join_below}
use Rattle.memory.specs.Fields.{byte_at, u16_at}
use Rattle.netlist.specs.Limits.{most_folded_rows, fold_result_bytes}
use Rattle.netlist.specs.Rows.{Row, RowFields, output, row_from_fields, decode_row, encode_row}
use Rattle.netlist.specs.FileFormat.{row_offset, read_fields, netlist_of, field_bytes}
use Rattle.netlist.specs.WellFormed.{FoldableRows}
use Rattle.abstraction.specs.Unrolling.{phase_output}
use Rattle.blockfile.proofs.StandLaws.{row_room}
use Rattle.blockfile.proofs.AppendLaws.{append-none, append-one, join-fits}
use Rattle.blockfile.specs.Ready.{Ready}
use Rattle.blockfile.specs.Appending.{Appended}
use Rattle.row_images.specs.ImageMap.{image_offset, images_in}
use Rattle.unrolling.specs.UnrollMap.{output_at, outputs_in}
use Rattle.row_images.proofs.ImageLaws.{image-get}

output-none : (k v d s a b c : ℕ) → (d ≡ 6 → ⊥) → phase_output k v (row_from_fields d s a b c) ≡ []
output-none k v zero s a b c n = refl
output-none k v (suc zero) s a b c n = refl
output-none k v (suc (suc zero)) s a b c n = refl
output-none k v (suc (suc (suc zero))) s a b c n = refl
output-none k v (suc (suc (suc (suc zero)))) s a b c n = refl
output-none k v (suc (suc (suc (suc (suc zero))))) s a b c n = refl
output-none k v (suc (suc (suc (suc (suc (suc zero)))))) s a b c n = absurd (n refl)
output-none k v (suc (suc (suc (suc (suc (suc (suc d))))))) s a b c n = refl

output-one : (k v d s a b c : ℕ) → d ≡ 6 → phase_output k v (row_from_fields d s a b c) ≡ output v b k ∷ []
output-one k v d s a b c e = rw e

module _ (f w : List ℕ) (k i offset : ℕ) (O : Ready FoldableRows f (length (netlist_of f))) (h : i < length (netlist_of f)) (e : offset ≡ row_offset i) where
  abbrev image : ℕ
  image = get_or (images_in w k (length (netlist_of f))) i 0

  abbrev o : ℕ
  o = row_offset i

  abbrev label : ℕ
  label = u16_at f (o + 4)

  by-fields : output_at (netlist_of f) w k i ≡ phase_output k image (decode_row (read_fields f i))
  by-fields = ap (phase_output k image) (O.file.row_is i h)

  kind_at : byte_at f o ≡ byte_at f offset
  kind_at = ap (byte_at f) (sym e)

  pub output-no : (result : List ℕ) (m : ℕ) → (byte_at f offset ≡ 6 → ⊥) → Appended (output_at (netlist_of f) w k i) result result m m
  output-no result m n =
      subst (λ (z : List Row). Appended z result result m m) (sym (by-fields ∙ output-none k image (byte_at f o) (byte_at f (o + 1)) (u16_at f (o + 2)) label (u16_at f (o + 6)) (λ q. n (sym kind_at ∙ q)))) (append-none result m)

  output-is : byte_at f offset ≡ 6 → output_at (netlist_of f) w k i ≡ output image label k ∷ []
  output-is q = by-fields ∙ output-one k image (byte_at f o) (byte_at f (o + 1)) (u16_at f (o + 2)) label (u16_at f (o + 6)) (kind_at ∙ q)

  -- So there is room for it.
  module _ (m : ℕ) (q : byte_at f offset ≡ 6) (l : m + length (output_at (netlist_of f) w k i) ≤ most_folded_rows) where
    pub output-few : m < most_folded_rows
    output-few = omega (arith, ap length (output-is q))

    pub output-room : (result : List ℕ) → fold_result_bytes ≤ length result → row_offset m + 8 ≤ length result
    output-room result room = omega (arith, row_room m output-few)

  pub output-yes : (result result' : List ℕ) (m n l v : ℕ) → byte_at f offset ≡ 6 → m + length (output_at (netlist_of f) w k i) ≤ most_folded_rows → fold_result_bytes ≤ length result → l ≡ u16_at f (offset + 4) → v ≡ u16_at w (image_offset k i)
      → (result' ≡ sets result (row_offset m) (field_bytes (record { kind = 6; reset = 0; a = v; b = l; c = k }))) × (n ≡ m + 1) → Appended (output_at (netlist_of f) w k i) result result' m n
  output-yes result result' m n l v q few room d u t =
      let x : v ≡ image = u ∙ sym (image-get w k (length (netlist_of f)) i h) in
      let y : l ≡ label = d ∙ ap (λ (z : ℕ). u16_at f (z + 4)) e in
      let z : ◌≡◌ {A = RowFields} (record { kind = 6; reset = 0; a = v; b = l; c = k }) (encode_row (output image label k)) = rw (x, y) in
      rw (output-is q) (append-one (output image label k) (record { kind = 6; reset = 0; a = v; b = l; c = k }) result result' m n z (output-room m q few result room) t)

-- The kind and the label of row i of the file.
module _ (f : List ℕ) (i offset : ℕ) (O : Ready FoldableRows f (length (netlist_of f))) (h : i < length (netlist_of f)) (e : offset ≡ row_offset i) where
  pub kind-inside : offset < length f
  kind-inside = let w = O.file.inside i h in omega arith

  pub label_inside : offset + 4 + 2 ≤ length f
  label_inside = let w = O.file.inside i h in omega arith

-- ---- the loops

-- Where there is room for all outputs of a phase, there is for those of row i.
pub row-outputs-fit : (rows : List Row) (w : List ℕ) (k i n : ℕ) (result₀ result : List ℕ) (count m : ℕ) → Appended (join_below i (output_at rows w k)) result₀ result count m → i < n → n ≡ length rows
    → count + length (outputs_in rows w k) ≤ most_folded_rows → m + length (output_at rows w k i) ≤ most_folded_rows
unfolding outputs_in
row-outputs-fit rows w k i n result₀ result count m A h e l = join-fits (output_at rows w k) i result₀ result count m A (length rows) most_folded_rows (omega arith) l

-- And where there is room for those of all phases, there is for those of phase k.
pub phase-outputs-fit : (rows : List Row) (w : List ℕ) (k n : ℕ) (result₀ result : List ℕ) (count m : ℕ) → Appended (join_below k (outputs_in rows w)) result₀ result count m → k < n
    → count + length (join_below n (outputs_in rows w)) ≤ most_folded_rows → m + length (outputs_in rows w k) ≤ most_folded_rows
phase-outputs-fit rows w k n result₀ result count m A h l = join-fits (outputs_in rows w) k result₀ result count m A n most_folded_rows h l
