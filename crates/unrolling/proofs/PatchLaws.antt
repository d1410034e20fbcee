-- The new registers' next values, row by row: each is read from its row, and its image in the last phase is written there.
-- Assumes nothing.
use Prim.Native.Nat.{ℕ, zero, suc, ◌+◌, ◌<◌, ◌≤◌, ◌/◌}
use mathlib.Core.Path.{◌≡◌, refl, sym, ap, ◌∙◌, subst}
use mathlib.Core.List.{List}
use native.Mathlib.Omega.{arith}
use native.Mathlib.Numerals.{add-one}
use lib.ListN.{length}
use lib.Seq.{sets}
use Rattle.memory.specs.Fields.{byte_at, u16_at, u16_bytes}
use Rattle.memory.specs.Frames.{KeptOutside}
use Rattle.memory.proofs.TestLaws.{last_or}
use Rattle.memory.proofs.FieldLaws.{u16-read}
use Rattle.memory.proofs.FrameLaws.{kept-none, kept-join, kept_sets, sets-at}
use Rattle.netlist.specs.Limits.{most_folded_rows, most_original_rows, fold_result_bytes}
use Rattle.netlist.specs.Rows.{Row, constant, input, register, and_gate, xor_gate, mux_gate, output, kind_of}
use Rattle.netlist.specs.FileFormat.{row_offset}
use Rattle.netlist.specs.WellFormed.{NextBelow}
use Rattle.abstraction.specs.Unrolling.{image_literal, patch_next}
use Rattle.blockfile.proofs.StandLaws.{row_room, row_next}
use Rattle.blockfile.proofs.AppendLaws.{kind-byte}
use Rattle.blockfile.specs.Appending.{RowStands}
use Rattle.row_images.specs.ImageMap.{images_in}
use Rattle.unrolling.specs.UnrollMap.{NextFits, NextsPatched}
use Rattle.unrolling.proofs.UnrollFacts.{as-register}

-- ---- the next value in a row's bytes

-- A register's next value is read.
next-read : (s a l n j : ℕ) (f : List ℕ) → n ≤ most_original_rows → a / 2 < n → RowStands (register s a l) j f → u16_at f (row_offset j + 2) ≡ a
next-read s a l n j f h b t =
    let e : row_offset j + 2 + 1 ≡ row_offset j + 3 = omega arith in
    u16-read f (row_offset j + 2) a (omega arith) (t 2 (omega arith)) (ap (byte_at f) e ∙ t 3 (omega arith))

pub next_fits : (n j : ℕ) (r : Row) (f : List ℕ) → n ≤ most_original_rows → NextBelow n r → RowStands r j f → NextFits j f
next_fits n j r f h b s k =
    as-register (λ (z : Row). NextBelow n z → RowStands z j f → u16_at f (row_offset j + 2) / 2 < most_original_rows) r (sym (kind-byte r j f s) ∙ k)
    (λ x a l b s. let e = next-read x a l n j f h b s in rw e (omega arith)) b s

-- A row that is no register keeps its fields.
pub patch-other : (images : List ℕ) (r : Row) → (kind_of r ≡ 2 → ⊥) → patch_next images r ≡ r
patch-other images constant n = refl
patch-other images (input _ _) n = refl
patch-other images (register _ _ _) n = absurd (n refl)
patch-other images (and_gate _ _) n = refl
patch-other images (xor_gate _ _) n = refl
patch-other images (mux_gate _ _ _) n = refl
patch-other images (output _ _ _) n = refl

-- ---- one row

-- Only the two bytes of the next value are written.
next-kept : (v j : ℕ) (f : List ℕ) → KeptOutside (row_offset j + 2) (row_offset j + 4) f (sets f (row_offset j + 2) (u16_bytes v))
next-kept v j f = kept_sets (row_offset j + 2) (row_offset j + 4) (u16_bytes v) f (row_offset j + 2) (omega arith) (omega arith)

next-stands : (s a l v j : ℕ) (f : List ℕ) → row_offset j + 8 ≤ length f → RowStands (register s a l) j f → RowStands (register s v l) j (sets f (row_offset j + 2) (u16_bytes v))
next-stands s a l v j f h t zero b = (next-kept v j f).before (row_offset j + 0) (omega arith) ∙ t 0 b
next-stands s a l v j f h t (suc zero) b = (next-kept v j f).before (row_offset j + 1) (omega arith) ∙ t 1 b
next-stands s a l v j f h t (suc (suc zero)) b =
    let e : row_offset j + 2 ≡ row_offset j + 2 + 0 = omega arith in
    ap (byte_at (sets f (row_offset j + 2) (u16_bytes v))) e ∙ sets-at (u16_bytes v) f (row_offset j + 2) 0 (omega arith) (omega arith)
next-stands s a l v j f h t (suc (suc (suc zero))) b =
    let e : row_offset j + 3 ≡ row_offset j + 2 + 1 = omega arith in
    ap (byte_at (sets f (row_offset j + 2) (u16_bytes v))) e ∙ sets-at (u16_bytes v) f (row_offset j + 2) 1 (omega arith) (omega arith)
next-stands s a l v j f h t (suc (suc (suc (suc d)))) b = (next-kept v j f).after (row_offset j + suc (suc (suc (suc d)))) (omega arith) ∙ t (suc (suc (suc (suc d)))) b

module _ (work : List ℕ) (k j offset : ℕ) (result : List ℕ) (e : offset ≡ row_offset j) where
  module _ (h : byte_at result offset ≡ 2) (next image : ℕ) (result' : List ℕ) (f : next ≡ u16_at result (offset + 2)) (g : (n : ℕ) → next / 2 < n → image ≡ image_literal (images_in work k n) next)
      (i : result' ≡ sets result (offset + 2) (u16_bytes image)) (jb : j < most_folded_rows) (room : fold_result_bytes ≤ length result) where
    written : result' ≡ sets result (row_offset j + 2) (u16_bytes image)
    written = i ∙ ap (λ (z : ℕ). sets result (z + 2) (u16_bytes image)) e

    here : (n : ℕ) → n ≤ most_original_rows → (r : Row) → NextBelow n r → RowStands r j result → RowStands (patch_next (images_in work k n) r) j result'
    here n few r b s =
        let images = images_in work k n in
        as-register (λ (z : Row). NextBelow n z → RowStands z j result → RowStands (patch_next images z) j result') r (sym (kind-byte r j result s) ∙ sym (ap (byte_at result) e) ∙ h)
        (λ x a l b s.
        let q : next ≡ a = f ∙ ap (λ (z : ℕ). u16_at result (z + 2)) e ∙ next-read x a l n j result few b s in
        let p : image ≡ image_literal images a = g n (omega arith) ∙ ap (image_literal images) q in
        subst (RowStands (register x (image_literal images a) l) j) (sym (written ∙ ap (λ (z : ℕ). sets result (row_offset j + 2) (u16_bytes z)) p)) (next-stands x a l (image_literal images a) j result (omega (arith, row_room j jb)) s))
        b s

    pub patch-register : NextsPatched work k j (suc j) result result'
    patch-register =
        let o = row_next j (suc j) (omega arith) in
        record {
          patched = λ n few x r a b nb s. let q : j ≡ x = omega arith in subst (λ (z : ℕ). RowStands (patch_next (images_in work k n) r) z result') q (here n few r nb (subst (λ (z : ℕ). RowStands r z result) (sym q) s));
          kept = rw written (kept_sets (row_offset j) (row_offset (suc j)) (u16_bytes image) result (row_offset j + 2) (omega arith) (omega arith));
        }

  pub patch-none : (byte_at result offset ≡ 2 → ⊥) → NextsPatched work k j (suc j) result result
  patch-none h = record {
    patched = λ n few x r a b nb s.
        let q : x ≡ j = omega arith in
        let t = subst (λ (z : ℕ). RowStands r z result) q s in
        subst (λ (z : Row). RowStands z x result) (sym (patch-other (images_in work k n) r (λ u. h (ap (byte_at result) e ∙ kind-byte r j result t ∙ u)))) s;
    kept = kept-none (row_offset j) (row_offset (suc j)) result;
  }

-- ---- the loop

module _ (work : List ℕ) (k j : ℕ) (result₀ result : List ℕ) (P : NextsPatched work k 0 j result₀ result) where
  pub patch-more : (result' : List ℕ) → NextsPatched work k j (suc j) result result' → NextsPatched work k 0 (j + 1) result₀ result'
  patch-more result' Q =
      let o = row_next j (suc j) (omega arith) in
      rw (add-one j) record {
        patched = λ n few x r a b nb s.
            last_or x j b
            (λ l d h. let u = row_next x j l in Q.kept.before (row_offset x + d) (omega arith) ∙ P.patched n few x r a l nb s d h)
            (λ q.
            let t = subst (λ (z : ℕ). RowStands r z result₀) q s in
            subst (λ (z : ℕ). RowStands (patch_next (images_in work k n) r) z result') (sym q) (Q.patched n few j r (omega arith) (omega arith) nb (λ d h. P.kept.after (row_offset j + d) (omega arith) ∙ t d h)));
        kept = kept-join (row_offset 0) (row_offset (suc j)) result₀ result result' P.kept Q.kept (omega arith) (omega arith) (omega arith) (omega arith);
      }
