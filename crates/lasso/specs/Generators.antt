-- Generators, periods and the phase count: the scope paper, "Values over time".
-- Interface: periods_of, phase_count, is_used, clock_value; IsPeriod and IsBestCount say the same in the paper's words.
-- Assumes nothing.
use Rattle.std.specs.Prelude.{ℕ, zero, suc, ◌+◌, ◌<◌, ◌≤◌, ◌%◌, ◌≡◌, Bool, true, cond, ◌&&◌, List, length, get_or, eqb, ltb, leb}
use Rattle.memory.specs.Lists.{all_below, tabulate, first_from, count_if}
use Rattle.ternary.specs.Ternary.{Ternary, X, equal3, is_known}
use Rattle.netlist.specs.Limits.{most_phases}
use Rattle.netlist.specs.Rows.{Row, row_at, is_register}
use Rattle.netlist.specs.Simulation.{value_at}
use Rattle.lasso.specs.TernaryRun.{ternary_logic, ternary_state}
use Rattle.lasso.specs.LassoSearch.{Lasso}

-- What row i holds in state t.
abbrev pub state_value : List Row → ℕ → ℕ → Ternary
state_value rows i t = value_at ternary_logic (ternary_state rows t) i

-- Row i has a generator of length p, p not 0: p divides the cycle, and in states 0 to m - 1 the row is never X and its value at t is its value at t mod p.
unfoldable pub is_generator : List Row → Lasso → ℕ → ℕ → Bool
is_generator rows z i p =
    eqb (z.cycle % p) 0 && all_below (z.stem + z.cycle) (λ t. is_known (state_value rows i t) && equal3 (state_value rows i t) (state_value rows i (t % p)))

-- The period of row i, the least length of its generators; 0 if it is no register or has no generator.
unfoldable pub period_of : List Row → Lasso → ℕ → ℕ
period_of rows z i = let p = first_from 1 z.cycle (is_generator rows z i) in cond (is_register (row_at rows i) && leb p z.cycle) p 0

unfoldable pub periods_of : List Row → Lasso → List ℕ
periods_of rows z = tabulate (length rows) (period_of rows z)

-- p is a period, not 0, and divides n: with N for n, the generator is used.
abbrev pub is_used : ℕ → ℕ → Bool
is_used n p = ltb 0 p && eqb (n % p) 0

-- How many of the periods divide n.
abbrev pub used_count : List ℕ → ℕ → ℕ
used_count ps n = count_if (is_used n) ps

-- n has a higher count than b.
abbrev pub is_better : List ℕ → ℕ → ℕ → Bool
is_better ps b n = ltb (used_count ps b) (used_count ps n)

-- The smallest of the numbers 1 to n with the highest count; 1 for n = 0.
unfoldable pub best_phase_count : List ℕ → ℕ → ℕ
best_phase_count ps zero = 1
best_phase_count ps (suc n) = let b = best_phase_count ps n in cond (is_better ps b (suc n)) (suc n) b

-- The phase count N: the wish, or for wish 0 the best.
unfoldable pub phase_count : ℕ → List ℕ → ℕ
phase_count zero ps = best_phase_count ps most_phases
phase_count (suc w) ps = suc w

-- What is known of row i in phase k of N: its generator's value there if that is used, and else X.
unfoldable pub clock_value : List Row → List ℕ → ℕ → ℕ → ℕ → Ternary
clock_value rows ps N i k = let p = get_or ps i 0 in cond (is_used N p) (state_value rows i (k % p)) X

-- ---- in the paper's words

-- p is the least length of row i's generators.
pub record IsPeriod (rows : List Row) (z : Lasso) (i p : ℕ) : Type 0 where
  pub nonzero : 0 < p
  pub generates : is_generator rows z i p ≡ true
  pub least : (q : ℕ) → 0 < q → is_generator rows z i q ≡ true → p ≤ q

-- n is the smallest number of 1 to 8 with the highest count.
pub record IsBestCount (ps : List ℕ) (n : ℕ) : Type 0 where
  pub within : (1 ≤ n) × (n ≤ most_phases)
  pub highest : (k : ℕ) → 1 ≤ k → k ≤ most_phases → used_count ps k ≤ used_count ps n
  pub smallest : (k : ℕ) → 1 ≤ k → k < n → used_count ps k < used_count ps n
