-- The phase count in the paper's words: the wish, or the smallest number of 1 to 8 with the highest count; it is 1 to 8.
-- Assumes nothing.
use Prim.Native.Nat.{ℕ, zero, suc, ◌<◌, ◌≤◌}
use mathlib.Core.Path.{◌≡◌, refl}
use mathlib.Core.List.{List}
use native.Mathlib.Omega.{arith}
use native.Mathlib.Nat.{le_refl}
use borrow.Author.Tests.{ltb-true, ltb-false}
use Rattle.memory.proofs.TestLaws.{cond-case, last_or}
use Rattle.netlist.specs.Limits.{most_phases}
use Rattle.lasso.specs.Generators.{used_count, is_better, best_phase_count, phase_count, IsBestCount}

module _ (ps : List ℕ) where
  best-within : (n : ℕ) → (1 ≤ best_phase_count ps n) × (best_phase_count ps n ≤ suc n) × (1 ≤ n → best_phase_count ps n ≤ n)
  unfolding best_phase_count
  best-within zero = (omega arith, omega arith, λ h. absurd (omega arith))
  best-within (suc n) =
      let w = best-within n in
      cond-case (λ (k : ℕ). (1 ≤ k) × (k ≤ suc (suc n)) × (1 ≤ suc n → k ≤ suc n)) (is_better ps (best_phase_count ps n) (suc n)) (suc n) (best_phase_count ps n)
      (λ _. (omega arith, omega arith, λ _. omega arith)) (λ _. (w.0, omega (arith, w.1), λ _. w.1))

  -- No number of 1 to n has a higher count, and every smaller number has a lower one.
  best-is : (n k : ℕ) → 1 ≤ k → k ≤ n → (used_count ps k ≤ used_count ps (best_phase_count ps n)) × (k < best_phase_count ps n → used_count ps k < used_count ps (best_phase_count ps n))
  unfolding best_phase_count
  best-is zero k h l = absurd (omega arith)
  best-is (suc n) k h l =
      let b = best_phase_count ps n in
      let ih = best-is n k h in
      cond-case (λ (x : ℕ). (used_count ps k ≤ used_count ps x) × (k < x → used_count ps k < used_count ps x)) (is_better ps b (suc n)) (suc n) b
      (λ q.
      let w = ltb-true (used_count ps b) (used_count ps (suc n)) q in
      last_or k (suc n) (omega arith)
      (λ a. let i = ih (omega arith) in (omega (arith, i.0), λ _. omega (arith, i.0)))
      (λ e. (rw e (le_refl _), λ a. absurd (omega arith))))
      (λ q.
      last_or k (suc n) (omega arith)
      (λ a. ih (omega arith))
      (λ e. (rw e (ltb-false (used_count ps b) (used_count ps (suc n)) q), λ a. absurd (omega (arith, (best-within n).1)))))

  pub phases-best : IsBestCount ps (phase_count 0 ps)
  unfolding phase_count
  phases-best =
      let w = best-within most_phases in
      record {
        within = (w.0, w.2 (omega arith));
        highest = λ k a b. (best-is most_phases k a b).0;
        smallest = λ k a b. (best-is most_phases k a (omega (arith, w.2 (omega arith)))).1 b;
      }

pub phases-wish : (w : ℕ) (ps : List ℕ) → 0 < w → phase_count w ps ≡ w
unfolding phase_count
phases-wish zero ps h = absurd (omega arith)
phases-wish (suc w) ps h = refl

-- N is 1 to 8.
pub phases-pos : (w : ℕ) (ps : List ℕ) → 0 < phase_count w ps
unfolding phase_count
phases-pos zero ps = (phases-best ps).within.0
phases-pos (suc w) ps = omega arith

pub phases-le : (w : ℕ) (ps : List ℕ) → w ≤ most_phases → phase_count w ps ≤ most_phases
unfolding phase_count
phases-le zero ps h = (phases-best ps).within.1
phases-le (suc w) ps h = h
