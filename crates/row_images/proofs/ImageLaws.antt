-- Image literals read after they were written.
-- Assumes nothing.
use Prim.Native.Nat.{ℕ, suc, ◌+◌, ◌<◌, ◌≤◌, ◌^◌}
use mathlib.Core.Path.{◌≡◌, ap, ◌∙◌}
use mathlib.Core.List.{List, [], ◌∷◌, ◌++◌}
use native.Mathlib.Omega.{arith}
use lib.ListN.{length}
use lib.Seq.{sets}
use Rattle.memory.specs.Fields.{byte_at, u16_at, u16_bytes}
use Rattle.memory.proofs.ListLaws.{tabulate-at, tabulate-cong}
use Rattle.memory.proofs.FrameLaws.{kept_sets, u16-back}
use Rattle.row_images.specs.ImageMap.{image_offset, images_in}

pub u16-at : (w : List ℕ) (p offset r : ℕ) → p ≡ offset → r ≡ u16_at w p → r ≡ u16_at w offset
u16-at w p offset r e f = f ∙ ap (u16_at w) e

-- The image of row j is read.
pub image-get : (w : List ℕ) (k n j : ℕ) → j < n → byte_at (images_in w k n) j ≡ u16_at w (image_offset k j)
unfolding images_in
image-get w k n j h = tabulate-at n (λ i. u16_at w (image_offset k i)) j 0 h

-- Images that stand before `lo`, where nothing is written, are kept.
pub images-kept : (w w' : List ℕ) (lo k n : ℕ) → ((p : ℕ) → p < lo → byte_at w' p ≡ byte_at w p) → image_offset k n ≤ lo → images_in w' k n ≡ images_in w k n
unfolding images_in
images-kept w w' lo k n f h =
    tabulate-cong n (λ i. u16_at w' (image_offset k i)) (λ i. u16_at w (image_offset k i))
    (λ j l.
    let a = f (image_offset k j) (omega arith) in
    let b = f (image_offset k j + 1) (omega arith) in
    rw (a, b))

-- One image more.
pub images-more : (w w' : List ℕ) (k i v : ℕ) → w' ≡ sets w (image_offset k i) (u16_bytes v) → v < 2 ^ 16 → image_offset k i + 2 ≤ length w → images_in w' k (suc i) ≡ images_in w k i ++ (v ∷ [])
unfolding images_in
images-more w w' k i v e l h =
    let a : u16_at w' (image_offset k i) ≡ v = rw e (u16-back w (image_offset k i) v l h) in
    let b = images-kept w w' (image_offset k i) k i (λ p d. rw e ((kept_sets (image_offset k i) (image_offset k i + 2) (u16_bytes v) w (image_offset k i) (omega arith) (omega arith)).before p d)) (omega arith) in
    ap (λ (z : List ℕ). z ++ (u16_at w' (image_offset k i) ∷ [])) b ∙ ap (λ (z : ℕ). images_in w k i ++ (z ∷ [])) a
