-- The folded netlist has at most 1 + N × (rows - 1) rows: for at most 1,008 rows and 8 phases never more than 8,064.
-- Assumes nothing.
use Prim.Native.Nat.{ℕ, zero, suc, ◌+◌, ◌-◌, ◌*◌, ◌<◌, ◌≤◌}
use mathlib.Core.Path.{◌≡◌, refl, sym, ap, ◌∙◌, subst}
use mathlib.Core.Bool.{false, cond, true≢false}
use mathlib.Core.List.{List, [], ◌∷◌, map}
use native.Mathlib.Omega.{arith}
use native.Mathlib.Nat.{suc-mul, mul-le-mul, mul-add, le_refl}
use lib.Dec.{eqb}
use lib.ListN.{length, get_or, length-append, length-map}
use Rattle.memory.specs.Lists.{join_below}
use Rattle.ternary.specs.Ternary.{Ternary}
use Rattle.netlist.specs.Limits.{most_phases, most_original_rows, most_folded_rows}
use Rattle.netlist.specs.Rows.{Row, constant, input, register, and_gate, xor_gate, mux_gate, output, row_at, kind_of, is_output}
use Rattle.abstraction.specs.GateMaking.{Image}
use Rattle.abstraction.specs.Unrolling.{phase_output, patch_next, unroll_phases, phase_outputs, unrolled_netlist}
use Rattle.abstraction.specs.Compaction.{is_cone_root, cone_of_influence, compact}
use Rattle.abstraction.specs.Fold.{fold_with}
use Rattle.abstraction.proofs.BuilderLaws.{NewRow, ImageOver, Added, none, one}
use Rattle.abstraction.proofs.UnrollLaws.{unroll-keeps}
use Rattle.abstraction.proofs.CompactionLaws.{compact-length, index-le}

-- How many nodes a row can make in a phase, and how many outputs it gives.
pub makes : Row → ℕ
makes r = cond (is_cone_root r) 0 1

pub gives : Row → ℕ
gives r = cond (is_output r) 1 0

-- A row that a new node is made of can make one.
new-makes : (k : ℕ) (r f : Row) → NewRow k r f → 1 ≤ makes r
unfolding makes
new-makes k constant f w = absurd (omega (arith, w.kind, w.solid))
new-makes k (input _ _) f w = omega arith
new-makes k (register _ _ _) f w = omega arith
new-makes k (and_gate _ _) f w = omega arith
new-makes k (xor_gate _ _) f w = omega arith
new-makes k (mux_gate _ _ _) f w = omega arith
new-makes k (output _ _ _) f w = absurd (out f w.kind w.node)
  where
    out : (f : Row) → kind_of f ≡ 6 → is_output f ≡ false → ⊥
    out f e n = true≢false (sym (ap (λ (m : ℕ). eqb m 6) e) ∙ n)

output-gives : (k m : ℕ) (r : Row) → length (phase_output k m r) ≡ gives r
unfolding gives
output-gives k m constant = refl
output-gives k m (input _ _) = refl
output-gives k m (register _ _ _) = refl
output-gives k m (and_gate _ _) = refl
output-gives k m (xor_gate _ _) = refl
output-gives k m (mux_gate _ _ _) = refl
output-gives k m (output _ _ _) = refl

one_of : (r : Row) → makes r + gives r ≤ 1
unfolding makes gives
one_of constant = omega arith
one_of (input _ _) = omega arith
one_of (register _ _ _) = omega arith
one_of (and_gate _ _) = omega arith
one_of (xor_gate _ _) = omega arith
one_of (mux_gate _ _ _) = omega arith
one_of (output _ _ _) = omega arith

module _ (rows : List Row) where
  -- The sum of f over the first n rows.
  pub total : (Row → ℕ) → ℕ → ℕ
  total f zero = 0
  total f (suc n) = total f n + f (row_at rows n)

  -- Row 0 makes nothing, and each other row at most one.
  pub total-one : row_at rows 0 ≡ constant → (n : ℕ) → total makes (suc n) + total gives (suc n) ≤ n
  unfolding total makes gives
  total-one e zero = rw e (omega arith)
  total-one e (suc n) = omega (arith, total-one e n, one_of (row_at rows (suc n)))

  phase-outputs : (k : ℕ) (images : List ℕ) (n : ℕ) → length (join_below n (λ i. phase_output k (get_or images i 0) (row_at rows i))) ≡ total gives n
  unfolding total
  phase-outputs k images zero = refl
  phase-outputs k images (suc n) =
      omega (arith, length-append (join_below n (λ i. phase_output k (get_or images i 0) (row_at rows i))) (phase_output k (get_or images n 0) (row_at rows n)), phase-outputs k images n, output-gives k (get_or images n 0) (row_at rows n))

  module _ (clock : ℕ → ℕ → Ternary) where
    -- The rows made before phase k of row n.
    abbrev Bound : ℕ → ℕ → List Row → Type 0
    Bound k n made = length made ≤ 1 + k * total makes (length rows) + total makes n

    bound-step : (k n : ℕ) {made : List Row} {i : Image} {made' : List Row} → Added made i made' → ImageOver (length made) k (row_at rows n) i → Bound k n made → Bound k (suc n) made'
    unfolding total
    bound-step k n none g b = omega arith
    bound-step k n {made} (one {r}) g b = omega (arith, b, length-append made (r ∷ []), new-makes k (row_at rows n) r g.0)

    made-bound : (k : ℕ) → Bound k 0 (unroll_phases clock rows k).made
    unfolding total
    made-bound =
        unroll-keeps clock rows Bound (λ k n made i made' b a g p. bound-step k n a g p) (omega arith)
        (λ k made p. omega (arith, p, suc-mul k (total makes (length rows))))

    outputs-total : (k : ℕ) → length (join_below k (phase_outputs clock rows)) ≡ k * total gives (length rows)
    unfolding phase_outputs
    outputs-total zero = omega arith
    outputs-total (suc k) =
        omega (
          arith,
          length-append (join_below k (phase_outputs clock rows)) (phase_outputs clock rows k),
          outputs-total k,
          phase-outputs k (unroll_phases clock rows (suc k)).images (length rows),
          suc-mul k (total gives (length rows)),
        )

    pub whole-bound : (N : ℕ) → length (unrolled_netlist clock rows N) ≤ 1 + N * (total makes (length rows) + total gives (length rows))
    unfolding unrolled_netlist total
    whole-bound N =
        omega (
          arith,
          length-append (map (patch_next (unroll_phases clock rows N).images) (unroll_phases clock rows N).made) (join_below N (phase_outputs clock rows)),
          length-map (unroll_phases clock rows N).made (patch_next (unroll_phases clock rows N).images),
          made-bound N,
          outputs-total N,
          mul-add N (total makes (length rows)) (total gives (length rows)),
        )

-- The folded netlist's row count.
pub fold-length : (clock : ℕ → ℕ → Ternary) (rows : List Row) (N : ℕ) → row_at rows 0 ≡ constant → 0 < length rows → length (fold_with clock rows N) ≤ 1 + N * (length rows - 1)
unfolding fold_with compact
fold-length clock rows N e h =
    let whole = unrolled_netlist clock rows N in
    let n : length rows ≡ suc (length rows - 1) = omega arith in
    let t : total rows makes (length rows) + total rows gives (length rows) ≤ length rows - 1 = subst (λ (k : ℕ). total rows makes k + total rows gives k ≤ length rows - 1) (sym n) (total-one rows e (length rows - 1)) in
    omega (arith, compact-length whole (cone_of_influence whole) (length whole), index-le (cone_of_influence whole) (length whole), whole-bound rows clock N, mul-le-mul (le_refl N) t)

-- Never more than 8,064.
pub fold-fits : (clock : ℕ → ℕ → Ternary) (rows : List Row) (N : ℕ) → row_at rows 0 ≡ constant → 0 < length rows → length rows ≤ most_original_rows → N ≤ most_phases → length (fold_with clock rows N) ≤ most_folded_rows
fold-fits clock rows N e h l n =
    let a : length rows - 1 ≤ most_original_rows - 1 = omega arith in
    omega (arith, fold-length clock rows N e h, mul-le-mul n a)
