-- What the search for the periods is given, and the periods in the work memory.
-- Interface: Lassoed, PeriodPart, period_bytes.
-- Assumes nothing.
use Rattle.std.specs.Prelude.{ℕ, ◌+◌, ◌<◌, ◌≤◌, ◌%◌, ◌≡◌, Bool, cond, ◌&&◌, List, eqb, ltb, leb, length}
use Rattle.std.proofs.Math.Option.{Option, none, some}
use Rattle.memory.specs.Lists.{all_below, tabulate, first_from}
use Rattle.memory.specs.Fields.{byte_at}
use Rattle.netlist.specs.Limits.{most_phases, fold_work_bytes}
use Rattle.netlist.specs.Rows.{Row}
use Rattle.lasso.specs.LassoSearch.{Lasso, find_lasso}
use Rattle.lasso.specs.Generators.{period_of}
use Rattle.ternary_step.specs.StateMap.{code_at, Stored}
use Rattle.fold_memory.specs.WorkMap.{value_offset, state_offset}

-- The lasso, where there is one.
abbrev pub lasso_of : Option Lasso → Lasso
lasso_of none = record { stem = 0; cycle = 0 }
lasso_of (some z) = z

abbrev pub lasso_in : List Row → Lasso
lasso_in rows = lasso_of (find_lasso rows)

-- There is a lasso, and the states before the repeat stand in the memory.
pub record Lassoed (rows : List Row) (w : List ℕ) : Type 0 where
  pub found : find_lasso rows ≡ some (lasso_in rows)
  pub room : fold_work_bytes ≤ length w
  pub states : (t : ℕ) → t < (lasso_in rows).stem + (lasso_in rows).cycle → Stored rows w t

-- ---- periods: only those up to 8 are sought, for no other divides a phase count

-- Register j is known in state t, and its code there is that in state u.
abbrev pub holds_as : List ℕ → ℕ → ℕ → ℕ → Bool
holds_as w j t u = ltb (code_at w (state_offset t) j) 2 && eqb (code_at w (state_offset t) j) (code_at w (state_offset u) j)

abbrev pub repeats_in : List ℕ → ℕ → ℕ → ℕ → Bool
repeats_in w m j p = all_below m (λ t. holds_as w j t (t % p))

-- Register j has a generator of length p: m the number of states, c the cycle.
abbrev pub generator_in : List ℕ → ℕ → ℕ → ℕ → ℕ → Bool
generator_in w m c j p = eqb (c % p) 0 && repeats_in w m j p

-- A period up to 8, and 0 for any other.
abbrev pub small_period : ℕ → ℕ
small_period p = cond (leb p most_phases) p 0

abbrev pub period_in : List ℕ → ℕ → ℕ → ℕ → ℕ
period_in w m c j = small_period (first_from 1 most_phases (generator_in w m c j))

-- Each of the first i rows has its period in place of its value.
pub record PeriodPart (rows : List Row) (w : List ℕ) (i : ℕ) : Type 0 where
  pub lassoed : Lassoed rows w
  pub periods : (x : ℕ) → x < i → byte_at w (value_offset x) ≡ small_period (period_of rows (lasso_in rows) x)

-- The period bytes of the first n rows.
abbrev pub period_bytes : List ℕ → ℕ → List ℕ
period_bytes w n = tabulate n (λ i. byte_at w (value_offset i))
