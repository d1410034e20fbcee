-- The unrolling: every image names a row that is made before it is used, and a principle of induction over the rows made, phase by phase and row by row.
-- Assumes nothing.
use Prim.Native.Nat.{ℕ, zero, suc, ◌<◌, ◌≤◌, ◌/◌}
use mathlib.Core.Path.{◌≡◌, refl, ap, ◌∙◌}
use mathlib.Core.Bool.{Bool, false}
use mathlib.Core.List.{List, [], ◌∷◌}
use native.Mathlib.Omega.{arith}
use native.Mathlib.Decide.{dec_lt}
use lib.ListN.{length, get_or, get_or-eq_default}
use Rattle.memory.proofs.TestLaws.{last_or}
use Rattle.ternary.specs.Ternary.{Ternary}
use Rattle.netlist.specs.Rows.{Row, constant, row_at}
use Rattle.netlist.specs.WellFormed.{OperandsBelow, Ordered}
use Rattle.abstraction.specs.GateMaking.{Image, Unrolling, add_image}
use Rattle.abstraction.specs.Unrolling.{image_at, unroll_phase, unroll_phases}
use Rattle.abstraction.proofs.BuilderLaws.{ImageOver, LiteralsBelow, image-over, Added, add-rows, added-length, added-ordered, Satisfies, added-satisfies, add-literal, add-images, add-each}

-- An unrolling under way: it begins with a row, its rows are ordered and its images in range.
pub record FormedUnrolling (q : Unrolling) : Type 0 where
  pub some-row : 0 < length q.made
  pub ordered : Ordered q.made
  pub range : LiteralsBelow q.images (length q.made)

module _ (clock : ℕ → ℕ → Ternary) (rows : List Row) where
  pub images-length : (k : ℕ) (base : List Row) (previous : List ℕ) (n : ℕ) → length (unroll_phase clock rows k base previous n).images ≡ n
  unfolding unroll_phase
  images-length k base previous zero = refl
  images-length k base previous (suc n) = add-images (unroll_phase clock rows k base previous n) (image_at clock rows k previous (unroll_phase clock rows k base previous n) n) ∙ ap suc (images-length k base previous n)

  phase-grows : (k : ℕ) (base : List Row) (previous : List ℕ) (n : ℕ) → length base ≤ length (unroll_phase clock rows k base previous n).made
  unfolding unroll_phase
  phase-grows k base previous zero = omega arith
  phase-grows k base previous (suc n) = omega (arith, phase-grows k base previous n, (added-length (add-rows (unroll_phase clock rows k base previous n) (image_at clock rows k previous (unroll_phase clock rows k base previous n) n))).0)

  -- The image of row n is made of it over the rows so far.
  phase-image : (k : ℕ) (base : List Row) (previous : List ℕ) → LiteralsBelow previous (length base) → (n : ℕ) → FormedUnrolling (unroll_phase clock rows k base previous n)
      → ImageOver (length (unroll_phase clock rows k base previous n).made) k (row_at rows n) (image_at clock rows k previous (unroll_phase clock rows k base previous n) n)
  phase-image k base previous h n f =
      let q = unroll_phase clock rows k base previous n in
      image-over (length q.made) f.some-row _ k previous q.images (λ x. omega (arith, h x, phase-grows k base previous n)) f.range (row_at rows n)

  phase-formed : (k : ℕ) (base : List Row) (previous : List ℕ) → FormedUnrolling (record { made = base; images = previous }) → (n : ℕ) → FormedUnrolling (unroll_phase clock rows k base previous n)
  unfolding unroll_phase
  phase-formed k base previous f zero = record { some-row = f.some-row; ordered = f.ordered; range = λ x. f.some-row }
  phase-formed k base previous f (suc n) =
      let q = unroll_phase clock rows k base previous n in
      let g = phase-formed k base previous f n in
      let m = image_at clock rows k previous q n in
      let o = phase-image k base previous f.range n g in
      let a = add-rows q m in
      let l = added-length a in
      record {
        some-row = omega (arith, g.some-row, l.0);
        ordered = added-ordered k (row_at rows n) a o g.ordered;
        range = λ x.
            elim (dec_lt x (suc n)) [
              | yes h ↦ add-each (λ (_ y : ℕ). y / 2 < length (add_image q m).made) q m n (images-length k base previous n) (λ y _. omega (arith, g.range y, l.0)) ((add-literal q m).below k (row_at rows n) o) x h
              | no h ↦
                  (let e = add-images q m in
                  let i = images-length k base previous n in
                  let d : get_or (add_image q m).images x 0 ≡ 0 = get_or-eq_default (add_image q m).images 0 {n = x} (omega arith) in
                  omega (arith, d, g.some-row, l.0))
            ];
      }

  pub unroll-formed : (k : ℕ) → FormedUnrolling (unroll_phases clock rows k)
  unfolding unroll_phases
  unroll-formed zero = record { some-row = omega arith; ordered = first; range = λ x. omega arith }
    where
      first : (j : ℕ) → j < 1 → OperandsBelow j (row_at (constant ∷ []) j)
      first zero h = tt
      first (suc j) h = absurd (omega arith)
  unroll-formed (suc k) = phase-formed k (unroll_phases clock rows k).made (unroll_phases clock rows k).images (unroll-formed k) (length rows)

  -- A property P k n of the rows made before phase k of row n that each image keeps.
  module _ (P : ℕ → ℕ → List Row → Type 0)
      (step : (k n : ℕ) (made : List Row) (i : Image) (made' : List Row) → n < length rows → Added made i made' → ImageOver (length made) k (row_at rows n) i → P k n made → P k (suc n) made')
    where
      phase-keeps : (k : ℕ) (base : List Row) (previous : List ℕ) → FormedUnrolling (record { made = base; images = previous }) → P k 0 base → (n : ℕ) → n ≤ length rows → P k n (unroll_phase clock rows k base previous n).made
      unfolding unroll_phase
      phase-keeps k base previous f p zero h = p
      phase-keeps k base previous f p (suc n) h =
          step k n (unroll_phase clock rows k base previous n).made (image_at clock rows k previous (unroll_phase clock rows k base previous n) n) _ h (add-rows (unroll_phase clock rows k base previous n) (image_at clock rows k previous (unroll_phase clock rows k base previous n) n))
          (phase-image k base previous f.range n (phase-formed k base previous f n)) (phase-keeps k base previous f p n (omega arith))

      pub next-keeps : (k : ℕ) → P k 0 (unroll_phases clock rows k).made → P k (length rows) (unroll_phases clock rows (suc k)).made
      unfolding unroll_phases
      next-keeps k p = phase-keeps k (unroll_phases clock rows k).made (unroll_phases clock rows k).images (unroll-formed k) p (length rows) (omega arith)

      pub unroll-keeps : P 0 0 (constant ∷ []) → ((k : ℕ) (made : List Row) → P k (length rows) made → P (suc k) 0 made) → (k : ℕ) → P k 0 (unroll_phases clock rows k).made
      unfolding unroll_phases
      unroll-keeps p next zero = p
      unroll-keeps p next (suc k) = next k (unroll_phases clock rows (suc k)).made (next-keeps k (unroll-keeps p next k))

  -- Later phases keep the rows of the earlier ones.
  pub unroll-grows : (k N : ℕ) → k ≤ N → length (unroll_phases clock rows k).made ≤ length (unroll_phases clock rows N).made
  unroll-grows k zero h = let e : k ≡ 0 = omega arith in rw e (omega arith)
  unroll-grows k (suc N) h =
      last_or k (suc N) (omega arith)
      (λ l. next-keeps (λ _ _ made. length (unroll_phases clock rows k).made ≤ length made) (λ k n made i made' b a o p. omega (arith, p, (added-length a).0)) N (unroll-grows k N (omega arith)))
      (λ e. rw e (omega arith))

  module _ (w : ℕ → Bool) (h : Row → Bool) (i : ℕ → ℕ → Bool) where
    pub unroll-satisfies : (k N : ℕ) → k ≤ N → Satisfies w h i (unroll_phases clock rows N).made → Satisfies w h i (unroll_phases clock rows k).made
    unroll-satisfies k zero l = let e : k ≡ 0 = omega arith in rw e (λ s. s)
    unroll-satisfies k (suc N) l =
        last_or k (suc N) (omega arith)
        (λ b. next-keeps (λ _ _ made. Satisfies w h i made → Satisfies w h i (unroll_phases clock rows k).made) (λ k n made m made' b a o p s. p (added-satisfies w h i a s)) N (unroll-satisfies k N (omega arith)))
        (λ e. rw e (λ s. s))

    -- Row 0 is the constant.
    pub unroll-zero : (N : ℕ) → Satisfies w h i (unroll_phases clock rows N).made → w 0 ≡ false
    unfolding unroll_phases
    unroll-zero N s = unroll-satisfies 0 N (omega arith) s 0 (omega arith)
