-- How many periods divide a number, and the phase count: a period above 8 divides none of 1 to 8, so the periods up to 8 are enough.
-- Assumes nothing.
use Prim.Native.Nat.{ℕ, zero, suc, ◌+◌, ◌-◌, ◌<◌, ◌≤◌}
use mathlib.Core.Path.{◌≡◌, refl, sym, ap, ap₂, ◌∙◌}
use mathlib.Core.Bool.{Bool, true, false, cond}
use mathlib.Core.List.{List}
use native.Mathlib.Omega.{arith}
use native.Mathlib.Numerals.{add-one}
use Rattle.std.proofs.Common.{add-zero}
use native.Mathlib.Decide.{dec_lt}
use native.Mathlib.Nat.{mod-eq_of_lt}
use borrow.Author.Tests.{ne_eqb, lt-ltb, le-ltb, le-leb, lt-leb}
use lib.Dec.{ltb}
use lib.ListN.{length}
use Rattle.memory.specs.Lists.{tabulate}
use Rattle.memory.specs.Fields.{byte_at}
use Rattle.memory.proofs.TestLaws.{cond-case}
use Rattle.memory.proofs.ListLaws.{count-last}
use Rattle.netlist.specs.Limits.{most_phases}
use Rattle.netlist.specs.Rows.{Row}
use Rattle.lasso.specs.Generators.{period_of, periods_of, is_used, used_count, is_better, best_phase_count, phase_count}
use Rattle.fold_memory.specs.WorkMap.{value_offset}
use Rattle.period_finder.specs.PeriodStage.{lasso_in, small_period, PeriodPart, period_bytes}

-- ---- one period

-- A period above n, which is not 0, does not divide it.
pub used-above : (n p : ℕ) → 1 ≤ n → n < p → is_used n p ≡ false
used-above n p h l = rw (lt-ltb 0 p (omega arith), mod-eq_of_lt l, ne_eqb n 0 (λ (e : n ≡ 0). omega arith)) refl

pub used-small : (n p : ℕ) → 1 ≤ n → n ≤ most_phases → is_used n (small_period p) ≡ is_used n p
used-small n p h l = elim (dec_lt most_phases p) [
  | yes b ↦ rw (lt-leb p most_phases b) (sym (used-above n p h (omega arith)))
  | no b ↦ rw (le-leb p most_phases (omega arith)) refl
]

-- ---- counts

count-more : (n : ℕ) (g : ℕ → ℕ) (i c b : ℕ) → c ≡ used_count (tabulate i g) n → b ≡ cond (is_used n (g i)) 1 0 → c + b ≡ used_count (tabulate (i + 1) g) n
count-more n g i c b p q = rw (add-one i) (ap₂ ◌+◌ p q ∙ sym (count-last (is_used n) (tabulate i g) (g i)))

-- One row more: x is its period.
module _ (w : List ℕ) (n i used x : ℕ) (counted : used ≡ used_count (period_bytes w i) n) (read : x ≡ byte_at w (value_offset i)) where
  pub used-next : is_used n x ≡ true → used + 1 ≡ used_count (period_bytes w (i + 1)) n
  used-next e = count-more n (λ y. byte_at w (value_offset y)) i used 1 counted (rw (← read, e) refl)

  pub used-other : is_used n x ≡ false → used ≡ used_count (period_bytes w (i + 1)) n
  used-other e = sym (add-zero used) ∙ count-more n (λ y. byte_at w (value_offset y)) i used 0 counted (rw (← read, e) refl)

count_same : (n : ℕ) (g h : ℕ → ℕ) (m : ℕ) → ((i : ℕ) → i < m → is_used n (g i) ≡ is_used n (h i)) → used_count (tabulate m g) n ≡ used_count (tabulate m h) n
count_same n g h zero e = refl
count_same n g h (suc m) e =
    count-last (is_used n) (tabulate m g) (g m)
    ∙ ap₂ ◌+◌ (count_same n g h m (λ i l. e i (omega arith))) (ap (λ (t : Bool). cond t 1 0) (e m (omega arith)))
    ∙ sym (count-last (is_used n) (tabulate m h) (h m))

-- ---- the best

pub best-start : (ps : List ℕ) → 1 ≡ best_phase_count ps 1
unfolding best_phase_count
best-start ps = cond-case (λ (k : ℕ). 1 ≡ k) (is_better ps 1 1) 1 1 (λ _. refl) (λ _. refl)

-- n is tried, after 1 to n - 1: `used` is its count.
module _ (ps : List ℕ) (n best most used : ℕ) (from : 2 ≤ n) (is-best : best ≡ best_phase_count ps (n - 1)) (is-most : most ≡ used_count ps best) (is-used : used ≡ used_count ps n) where
  tried-next : best_phase_count ps (n + 1 - 1) ≡ cond (ltb most used) n best
  unfolding best_phase_count
  tried-next =
      let e : n + 1 - 1 ≡ suc (n - 1) = omega arith in
      let q : suc (n - 1) ≡ n = omega arith in
      rw (e, ← is-best, q, ← is-most, ← is-used) refl

  pub best-next : most < used → n ≡ best_phase_count ps (n + 1 - 1)
  best-next h = sym (tried-next ∙ rw (lt-ltb most used h) refl)

  pub best-kept : used ≤ most → best ≡ best_phase_count ps (n + 1 - 1)
  best-kept h = sym (tried-next ∙ rw (le-ltb most used h) refl)

-- Lists of periods whose counts for 1 to 8 are equal.
module _ (ps qs : List ℕ) (same : (n : ℕ) → 1 ≤ n → n ≤ most_phases → used_count ps n ≡ used_count qs n) where
  best-same : (n : ℕ) → n ≤ most_phases → (best_phase_count ps n ≡ best_phase_count qs n) × ((1 ≤ best_phase_count ps n) × (best_phase_count ps n ≤ most_phases))
  unfolding best_phase_count
  best-same zero h = (refl, (omega arith, omega arith))
  best-same (suc n) h =
      let ih = best-same n (omega arith) in
      let b = best_phase_count ps n in
      let e : is_better ps b (suc n) ≡ is_better qs (best_phase_count qs n) (suc n) =
      ap₂ ltb (same b ih.1.0 ih.1.1 ∙ ap (used_count qs) ih.0) (same (suc n) (omega arith) h) in (
        ap₂ (λ (t : Bool) (k : ℕ). cond t (suc n) k) e ih.0,
        cond-case (λ (k : ℕ). (1 ≤ k) × (k ≤ most_phases)) (is_better ps b (suc n)) (suc n) b (λ _. (omega arith, h)) (λ _. ih.1),
      )

  phases-equal : (wish : ℕ) → phase_count wish ps ≡ phase_count wish qs
  unfolding phase_count
  phases-equal zero = (best-same most_phases (omega arith)).0
  phases-equal (suc w) = refl

pub wish-none : (wish : ℕ) (ps : List ℕ) (r : ℕ) → wish ≡ 0 → r ≡ best_phase_count ps most_phases → r ≡ phase_count wish ps
unfolding phase_count
wish-none wish ps r e h = rw e h

pub wish-some : (wish : ℕ) (ps : List ℕ) → (wish ≡ 0 → ⊥) → wish ≡ phase_count wish ps
unfolding phase_count
wish-some zero ps n = absurd (n refl)
wish-some (suc w) ps n = refl

-- ---- the memory's periods

module _ {rows : List Row} {w : List ℕ} (P : PeriodPart rows w (length rows)) where
  pub used-same : (n : ℕ) → 1 ≤ n → n ≤ most_phases → used_count (period_bytes w (length rows)) n ≡ used_count (periods_of rows (lasso_in rows)) n
  unfolding periods_of
  used-same n h l =
      count_same n (λ i. byte_at w (value_offset i)) (period_of rows (lasso_in rows)) (length rows)
      (λ i b. ap (is_used n) (P.periods i b) ∙ used-small n (period_of rows (lasso_in rows) i) h l)

  pub phases-same : (wish : ℕ) → phase_count wish (period_bytes w (length rows)) ≡ phase_count wish (periods_of rows (lasso_in rows))
  phases-same = phases-equal (period_bytes w (length rows)) (periods_of rows (lasso_in rows)) used-same
