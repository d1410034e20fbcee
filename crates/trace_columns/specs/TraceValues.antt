-- The values by columns.
-- Interface: value_in, step_in, ValuesReady, StepsReady.
-- Assumes nothing.
use Rattle.std.specs.Prelude.{ℕ, ◌+◌, ◌-◌, ◌*◌, ◌<◌, ◌≤◌, ◌/◌, ◌%◌, cond, List, length, eqb}
use Rattle.memory.specs.Lists.{tabulate}
use Rattle.memory.specs.Fields.{byte_at}
use Rattle.memory.specs.Slots.{slot_at}
use Rattle.netlist.specs.Limits.{most_rows, most_phases, most_steps}

-- The value of a column, of those from `base` on; 0 for column 0.
abbrev pub value_in : List ℕ → ℕ → ℕ → ℕ
value_in values base column = cond (eqb column 0) 0 (byte_at values (base + column - 1))

-- The values of n slots from `first` on.
abbrev pub values_in : List ℕ → ℕ → ℕ → List ℕ → ℕ → List ℕ
values_in columns first n values base = tabulate n (λ x. value_in values base (slot_at columns (first + x)))

-- Step t: phase t mod N, group t div N; a group has `kept` values.
abbrev pub step_in : List ℕ → ℕ → ℕ → ℕ → List ℕ → ℕ → List ℕ
step_in columns n N kept values t = values_in columns (t % N * n) n values (t / N * kept)

-- There are slots, and a value for each column.
pub record ValuesReady (columns : List ℕ) (first n : ℕ) (values : List ℕ) (base : ℕ) (trace : List ℕ) (to : ℕ) : Type 0 where
  pub slots : 2 * (first + n) ≤ length columns
  pub there : (x : ℕ) → x < n → base + slot_at columns (first + x) ≤ length values
  pub room : to + n ≤ length trace

-- The same for T steps.
pub record StepsReady (columns : List ℕ) (n N kept T : ℕ) (values trace : List ℕ) (to : ℕ) : Type 0 where
  pub some-phase : 1 ≤ N
  pub slots : 2 * (N * n) ≤ length columns
  pub kept-columns : (j : ℕ) → j < N * n → slot_at columns j ≤ kept
  pub groups : (t : ℕ) → t < T → t / N * kept + kept ≤ length values
  pub room : to + T * n ≤ length trace
  pub few-each : n ≤ most_rows
  pub few-kept : kept ≤ most_rows
  pub few-phases : N ≤ most_phases
  pub few-steps : T ≤ most_steps
  pub few-before : to ≤ most_rows
