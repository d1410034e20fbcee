-- The part that Show shows, by its first byte and its size.
-- Assumes nothing.
use Prim.Native.Nat.{ℕ, ◌+◌, ◌*◌, ◌^◌, ◌<◌, ◌≤◌}
use mathlib.Core.Path.{◌≡◌, refl, sym, ap, ◌∙◌, subst}
use mathlib.Core.Bool.{Bool, true, false, cond}
use mathlib.Core.List.{List, []}
use native.Mathlib.Omega.{arith}
use lib.Dec.{eqb}
use lib.ListN.{length, take, drop}
use borrow.Author.Tests.{ltb-true, eqb-true}
use Rattle.netlist.specs.Limits.{most_blocks}
use Rattle.netlist.specs.FileFormat.{row_part, block_count}
use Rattle.questions.proofs.AcceptedFiles.{ShowRight, show-accepted}
use Rattle.show.specs.ShowOutcome.{ShownBytes, part_offset}
use Rattle.show.proofs.ShowLaws.{part-long, part-is}
use Rattle.phasefold.specs.ForeignAnswers.{ShownFlat}

module _ (file : List ℕ) (B : ℕ) (part : List ℕ) (n p : ℕ) (S : ShownBytes file B part n p) where
  passed-all : n ≡ 0 → ShowRight file B
  passed-all e = show-accepted file B (sym S.number_is ∙ e)

  in-file : n ≡ 0 → B < block_count file
  in-file e = ltb-true B (block_count file) (passed-all e).block

  pub shown-few : n ≡ 0 → B < most_blocks
  shown-few e = omega (arith, in-file e, (passed-all e).file-right.size.few-blocks)

  part_by : (b : Bool) → eqb n 0 ≡ b → part ≡ cond b (row_part file B) []
  part_by b e = S.shown ∙ ap (λ (x : ℕ). cond (eqb x 0) (row_part file B) []) (sym S.number_is) ∙ ap (λ (x : Bool). cond x (row_part file B) []) e

  room : eqb n 0 ≡ true → 512 * B + 512 ≤ length file
  room e = omega (arith, in-file (eqb-true n 0 e))

  pub size_is : length part ≡ cond (eqb n 0) 504 0
  size_is = go (eqb n 0) refl
    where
      go : (b : Bool) → eqb n 0 ≡ b → length part ≡ cond b 504 0
      go true e = ap length (part_by true e) ∙ part-long file B (room e)
      go false e = ap length (part_by false e)

  pub size_fits : length part < 2 ^ 32
  size_fits = go (eqb n 0) size_is
    where
      go : (b : Bool) → length part ≡ cond b 504 0 → length part < 2 ^ 32
      go true e = omega arith
      go false e = omega arith

  part-again : (o : ℕ) → o ≡ part_offset n B → take (length part) (drop o file) ≡ part
  part-again o e = go (eqb n 0) refl e
    where
      go : (b : Bool) → eqb n 0 ≡ b → o ≡ cond b (512 * B + 4) 0 → take (length part) (drop o file) ≡ part
      go true h k = rw k (part-is file B (length part) (ap length (part_by true h) ∙ part-long file B (room h)) (room h) ∙ sym (part_by true h))
      go false h k = rw (part_by false h) refl

  pub shown-flat : (o : ℕ) → o ≡ part_offset n B → ShownFlat file B (record { number = n; place = p; offset = o; size = length part })
  shown-flat o e = record {
    shown = subst (λ (x : List ℕ). ShownBytes file B x n p) (sym (part-again o e)) S;
    offset-is = e;
    size_is = size_is;
  }
