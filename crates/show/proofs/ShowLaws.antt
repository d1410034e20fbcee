-- The outcomes of Show, by Check's answer and the block's number.
-- Assumes nothing.
use Prim.Native.Nat.{ℕ, ◌+◌, ◌*◌, ◌<◌, ◌≤◌}
use mathlib.Core.Path.{◌≡◌, refl, sym, ap, ◌∙◌}
use mathlib.Core.Bool.{false, cond}
use mathlib.Core.List.{List, [], ◌∷◌}
use native.Mathlib.Omega.{arith}
use lib.Dec.{eqb, ltb}
use lib.ListN.{length, get_or, take, drop, length-take, length-drop}
use lib.Seq.{get_or-take, get_or-drop, ext_get_or}
use borrow.Author.Tests.{lt-ltb, le-ltb, ne_eqb}
use Rattle.netlist.specs.FileFormat.{block_at, row_part, block_count}
use Rattle.questions.specs.Questions.{Refusal, no_refusal, first_refusal, question, show_refusal}
use Rattle.questions.proofs.QuestionLaws.{list-yes, list-no}
use Rattle.accept.specs.Refusals.{number_of, place_of, refusal_in, Checked}
use Rattle.accept.specs.declared.FileRefusal.{FileRefusal}
use Rattle.std.specs.Prelude.{Result, Ok, Err}
use Rattle.accept.specs.declared.Accepted.{Accepted}
use Rattle.accept.proofs.RefusalLaws.{number-positive, file-passes, file-stops}
use Rattle.show.specs.ShowOutcome.{part_offset, Shown}

-- The row part as one part of the file.
pub part-long : (file : List ℕ) (B : ℕ) → 512 * B + 512 ≤ length file → length (row_part file B) ≡ 504
part-long file B h = simp (length-take, length-drop) (omega arith)

pub part-is : (file : List ℕ) (B n : ℕ) → n ≡ 504 → 512 * B + 512 ≤ length file → take n (drop (512 * B + 4) file) ≡ row_part file B
part-is file B n e h =
    let l : length (take n (drop (512 * B + 4) file)) ≡ 504 = simp (length-take, length-drop) (omega arith) in
    ext_get_or 0 (take n (drop (512 * B + 4) file)) (row_part file B) (l ∙ sym (part-long file B h)) (λ i b.
    let p : 512 * B + 4 + i ≡ 512 * B + (4 + i) = omega arith in
    get_or-take n (drop (512 * B + 4) file) i 0 (omega arith) ∙ get_or-drop (512 * B + 4) file i 0 ∙ ap (λ (x : ℕ). get_or file x 0) p
    ∙ sym (get_or-take 504 (drop 4 (block_at file B)) i 0 (omega arith) ∙ get_or-drop 4 (block_at file B) i 0 ∙ get_or-take 512 (drop (512 * B) file) (4 + i) 0 (omega arith) ∙ get_or-drop (512 * B) file (4 + i) 0))

module _ (file : List ℕ) (at : ℕ × ℕ) (B : ℕ) where
  -- What is shown where the refusal is known, and the part starts o bytes behind the file's start.
  shown_by : (q : Refusal) (part : List ℕ) (o : ℕ) → show_refusal file B ≡ q → part ≡ cond (eqb q.number 0) (row_part file B) [] → o ≡ part_offset q.number B → Shown file at B part (at.0, o + at.1) q.number q.place
  shown_by q part o e p s = record {
    bytes = record { shown = rw e p; number_is = ap (λ (x : Refusal). x.number) (sym e); place_is = ap (λ (x : Refusal). x.place) (sym e) };
    inside = ap (λ (x : ℕ). (at.0, x + at.1)) s;
  }

  module _ (a : Result Accepted FileRefusal) (checked : Checked file a) where
    asked : (y : Accepted) → a ≡ Ok y → show_refusal file B ≡ first_refusal (question 21 (ltb B (block_count file)) ∷ [])
    unfolding show_refusal
    asked y e = file-passes file a checked y e (question 21 (ltb B (block_count file)) ∷ [])

    pub block-shown : (n : ℕ) → n ≡ 504 → (y : Accepted) → a ≡ Ok y → B < block_count file → Shown file at B (take n (drop (512 * B + 4) file)) (at.0, 512 * B + 4 + at.1) 0 0
    block-shown n l y e h =
        shown_by no_refusal (take n (drop (512 * B + 4) file)) (512 * B + 4) (asked y e ∙ list-yes 21 (ltb B (block_count file)) [] (lt-ltb B (block_count file) h)) (part-is file B n l (omega arith)) refl

    pub block-missing : (y : Accepted) → a ≡ Ok y → block_count file ≤ B → Shown file at B [] (at.0, 0 + at.1) 21 0
    block-missing y e h = shown_by (record { number = 21; place = 0 }) [] 0 (asked y e ∙ list-no 20 (ltb B (block_count file)) [] (le-ltb B (block_count file) h)) refl refl

    pub file-refused : (r : FileRefusal) (n p : ℕ) → a ≡ Err r → n ≡ number_of r → p ≡ place_of r → Shown file at B [] (at.0, 0 + at.1) n p
    unfolding show_refusal
    file-refused r n p e en ep =
        let q : show_refusal file B ≡ refusal_in r = file-stops file a checked (question 21 (ltb B (block_count file)) ∷ []) r e in
        let some-no : eqb (number_of r) 0 ≡ false = ne_eqb (number_of r) 0 (λ z. omega (arith, number-positive r, z)) in
        rw (en, ep) (shown_by (refusal_in r) [] 0 q (rw some-no refl) (rw some-no refl))
