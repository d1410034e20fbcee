-- The image of a literal, of a register and of a row, worked out from the bytes of `work`: a law for each way through the code, its premises the outcomes of the tests on it.
-- Assumes nothing.
use Prim.Native.Nat.{ℕ, zero, suc, ◌+◌, ◌<◌, ◌≤◌, ◌/◌, ◌%◌, ◌^◌, ◌-◌}
use mathlib.Core.Path.{◌≡◌, refl, sym, ap, ◌∙◌, subst}
use mathlib.Core.Bool.{cond}
use mathlib.Core.List.{List}
use native.Mathlib.Omega.{arith}
use lib.ListN.{length}
use lib.Dec.{eqb}
use borrow.Author.Tests.{eq-eqb, ne_eqb}
use Rattle.memory.specs.Fields.{byte_at, u16_at}
use Rattle.ternary.specs.Ternary.{lo, hi, X}
use Rattle.netlist.specs.Limits.{most_rows, most_original_rows}
use Rattle.netlist.specs.Rows.{input, register, RowFields, row_from_fields, decode_row, row_at}
use Rattle.netlist.specs.FileFormat.{row_offset, read_fields, netlist_of}
use Rattle.netlist.specs.WellFormed.{OperandsBelow, NextBelow}
use Rattle.abstraction.specs.GateMaking.{complement, new_row, make_and, make_xor, make_mux}
use Rattle.abstraction.specs.Unrolling.{complement_by, image_literal, register_image, row_image}
use Rattle.blockfile.specs.RowCode.{if_known}
use Rattle.blockfile.proofs.RowCodeLaws.{kind-unknown}
use Rattle.gates.specs.declared.MadeImage.{MadeImage}
use Rattle.gates.specs.declared.MadeImage.TheVariants.{Existing}
use Rattle.gates.specs.ImageCode.{image_code}
use Rattle.fold_memory.specs.WorkMap.{known_offset, known_in}
use Rattle.row_images.specs.ImageMap.{image_offset, images_in, no_literal, RowToFold}
use Rattle.row_images.proofs.ImageLaws.{image-get}

-- ---- a literal

by-odd : (b x : ℕ) → (b ≡ 0 → ⊥) → complement_by b x ≡ complement x
by-odd zero x n = absurd (n refl)
by-odd (suc b) x n = refl

module _ (w : List ℕ) (k l r : ℕ) (e : r ≡ u16_at w (image_offset k (l / 2))) where
  pub literal-even : l % 2 ≡ 0 → (n : ℕ) → l / 2 < n → r ≡ image_literal (images_in w k n) l
  literal-even p n h = e ∙ sym (ap (λ (b : ℕ). complement_by b (byte_at (images_in w k n) (l / 2))) p ∙ image-get w k n (l / 2) h)

  pub literal-odd : (o : ℕ) → (l % 2 ≡ 0 → ⊥) → o ≡ complement r → (n : ℕ) → l / 2 < n → o ≡ image_literal (images_in w k n) l
  literal-odd o p f n h = f ∙ ap complement (e ∙ sym (image-get w k n (l / 2) h)) ∙ sym (by-odd (l % 2) (byte_at (images_in w k n) (l / 2)) p)

-- ---- a register

pub open-first : (w : List ℕ) (k s a b : ℕ) → k ≡ 0 → (n : ℕ) → a / 2 < n → image_code (new_row (register s a b) 0) ≡ image_code (register_image X k (images_in w (k - 1) n) s a b)
open-first w zero s a b e n h = refl
open-first w (suc k) s a b e n h = absurd (omega arith)

pub open-later : (w : List ℕ) (k s a b r : ℕ) → (k ≡ 0 → ⊥) → ((n : ℕ) → a / 2 < n → r ≡ image_literal (images_in w (k - 1) n) a) → (n : ℕ) → a / 2 < n → Existing r ≡ image_code (register_image X k (images_in w (k - 1) n) s a b)
open-later w zero s a b r p f n h = absurd (p refl)
open-later w (suc k) s a b r p f n h = ap Existing (f n h)

known-bit : (c : ℕ) (k : ℕ) (previous : List ℕ) (s a b : ℕ) → c < 2 → Existing c ≡ image_code (register_image (cond (eqb c 0) lo hi) k previous s a b)
known-bit zero k previous s a b h = refl
known-bit (suc zero) k previous s a b h = refl
known-bit (suc (suc c)) k previous s a b h = absurd (omega arith)

module _ (w : List ℕ) (i k s a b : ℕ) where
  pub register-open : (r : MadeImage) → byte_at w (known_offset i) ≡ 0 → ((n : ℕ) → a / 2 < n → r ≡ image_code (register_image X k (images_in w (k - 1) n) s a b))
      → (n : ℕ) → a / 2 < n → r ≡ image_code (register_image (known_in w i k) k (images_in w (k - 1) n) s a b)
  register-open r e f n h = rw (eq-eqb (byte_at w (known_offset i)) 0 e) (f n h)

  pub register-known : (c : ℕ) → (byte_at w (known_offset i) ≡ 0 → ⊥) → c ≡ byte_at w (known_offset i + 1) / 2 ^ k % 2
      → (n : ℕ) → a / 2 < n → Existing c ≡ image_code (register_image (known_in w i k) k (images_in w (k - 1) n) s a b)
  register-known c p e n h = rw (ne_eqb (byte_at w (known_offset i)) 0 p, ← e) (known-bit c k (images_in w (k - 1) n) s a b (omega arith))

-- The literal of no row.
pub literal-of-none : most_rows ≤ no_literal / 2
literal-of-none = omega arith

-- ---- a row

-- Row i of the file can be read.
module _ (f : List ℕ) (i : ℕ) (R : RowToFold f i) where
  pub row-few : i < most_rows
  row-few = omega (arith, R.within, R.small)

  pub row_inside : row_offset i + 8 ≤ length f
  row_inside = R.file.inside i R.within

-- The fields of row i of the file.
module _ (f : List ℕ) (i : ℕ) (R : RowToFold f i) (d s a b c : ℕ) (e : ◌≡◌ {A = RowFields} (record { kind = d; reset = s; a = a; b = b; c = c }) (read_fields f i)) where
  row_is : row_at (netlist_of f) i ≡ row_from_fields d s a b c
  row_is = R.file.row_is i R.within ∙ ap decode_row (sym e)

  kind-is : (read_fields f i).kind ≡ d
  kind-is = ap (λ (x : RowFields). x.kind) (sym e)

  -- What its literals may name, by its kind.
  next : NextBelow (length (netlist_of f)) (row_from_fields d s a b c)
  next = subst (NextBelow (length (netlist_of f))) row_is R.next

  operands : OperandsBelow i (row_from_fields d s a b c)
  operands = subst (OperandsBelow i) row_is R.operands

  next-names : d ≡ 2 → a / 2 < length (netlist_of f)
  next-names q = rw q at next

  and-names : d ≡ 3 → (a / 2 < i) × (b / 2 < i)
  and-names q = rw q at operands

  xor-names : d ≡ 4 → (a / 2 < i) × (b / 2 < i)
  xor-names q = rw q at operands

  mux-names : d ≡ 5 → (a / 2 < i) × (b / 2 < i) × (c / 2 < i)
  mux-names q = rw q at operands

  output-names : d ≡ 6 → a / 2 < i
  output-names q = rw q at operands

  -- So each is in range.
  pub next_fits : d ≡ 2 → a / 2 < most_original_rows
  next_fits q = omega (arith, next-names q, R.small)

  pub and-first-fits : d ≡ 3 → a / 2 < most_original_rows
  and-first-fits q = omega (arith, and-names q, R.within, R.small)

  pub and-second-fits : d ≡ 3 → b / 2 < most_original_rows
  and-second-fits q = omega (arith, and-names q, R.within, R.small)

  pub xor-first-fits : d ≡ 4 → a / 2 < most_original_rows
  xor-first-fits q = omega (arith, xor-names q, R.within, R.small)

  pub xor-second-fits : d ≡ 4 → b / 2 < most_original_rows
  xor-second-fits q = omega (arith, xor-names q, R.within, R.small)

  pub mux-first-fits : d ≡ 5 → a / 2 < most_original_rows
  mux-first-fits q = omega (arith, mux-names q, R.within, R.small)

  pub mux-second-fits : d ≡ 5 → b / 2 < most_original_rows
  mux-second-fits q = omega (arith, mux-names q, R.within, R.small)

  pub mux-third-fits : d ≡ 5 → c / 2 < most_original_rows
  mux-third-fits q = omega (arith, mux-names q, R.within, R.small)

  pub output-fits : d ≡ 6 → a / 2 < most_original_rows
  output-fits q = omega (arith, output-names q, R.within, R.small)

  -- Its image in phase k.
  module _ (w : List ℕ) (k : ℕ) where
    abbrev IsImage : MadeImage → Type 0
    IsImage r = r ≡ if_known (read_fields f i).kind (image_code (row_image (known_in w i k) k (images_in w (k - 1) (length (netlist_of f))) (images_in w k i) (row_at (netlist_of f) i))) (Existing no_literal)

    -- What `literal_image` answers for the literal l.
    abbrev IsRead : ℕ → ℕ → Type 0
    IsRead l r = (n : ℕ) → l / 2 < n → r ≡ image_literal (images_in w k n) l

    pub image-constant : d ≡ 0 → IsImage (Existing 0)
    image-constant q = rw (kind-is, row_is, q)

    pub image-input : (r : MadeImage) → d ≡ 1 → r ≡ image_code (new_row (input a k) 0) → IsImage r
    image-input r q t = rw (kind-is, row_is, q) t

    pub image-register : (r : MadeImage) → d ≡ 2 → ((n : ℕ) → a / 2 < n → r ≡ image_code (register_image (known_in w i k) k (images_in w (k - 1) n) s a b)) → IsImage r
    image-register r q t = rw (kind-is, row_is, q) (t (length (netlist_of f)) (next-names q))

    pub image-and : (x y : ℕ) (r : MadeImage) → d ≡ 3 → IsRead a x → IsRead b y → r ≡ image_code (make_and x y) → IsImage r
    image-and x y r q rx ry t = let p = and-names q in rw (kind-is, row_is, q, ← rx i p.0, ← ry i p.1) t

    pub image-xor : (x y : ℕ) (r : MadeImage) → d ≡ 4 → IsRead a x → IsRead b y → r ≡ image_code (make_xor x y) → IsImage r
    image-xor x y r q rx ry t = let p = xor-names q in rw (kind-is, row_is, q, ← rx i p.0, ← ry i p.1) t

    pub image-mux : (x y z : ℕ) (r : MadeImage) → d ≡ 5 → IsRead a x → IsRead b y → IsRead c z → r ≡ image_code (make_mux x y z) → IsImage r
    image-mux x y z r q rx ry rz t = let p = mux-names q in rw (kind-is, row_is, q, ← rx i p.0, ← ry i p.1, ← rz i p.2) t

    pub image-output : (x : ℕ) → d ≡ 6 → IsRead a x → IsImage (Existing x)
    image-output x q rx = rw (kind-is, row_is, q) (ap Existing (rx i (output-names q)))

    -- A kind above 6 gets an image that names no row.
    pub image-unknown : (d ≡ 0 → ⊥) → (d ≡ 1 → ⊥) → (d ≡ 2 → ⊥) → (d ≡ 3 → ⊥) → (d ≡ 4 → ⊥) → (d ≡ 5 → ⊥) → (d ≡ 6 → ⊥) → IsImage (Existing no_literal)
    image-unknown n0 n1 n2 n3 n4 n5 n6 = rw kind-is (kind-unknown d (image_code (row_image (known_in w i k) k (images_in w (k - 1) (length (netlist_of f))) (images_in w k i) (row_at (netlist_of f) i))) (Existing no_literal) n0 n1 n2 n3 n4 n5 n6)
