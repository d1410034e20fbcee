-- What is known of each row, as two bytes in the work memory.
-- Interface: KnownPart.
-- Assumes nothing.
use Rattle.std.specs.Prelude.{ℕ, ◌+◌, ◌<◌, ◌≤◌, ◌%◌, ◌≡◌, cond, List, [], ◌∷◌, length, get_or}
use Rattle.memory.specs.Fields.{byte_at}
use Rattle.ternary.specs.Ternary.{Ternary, value_of}
use Rattle.netlist.specs.Limits.{most_phases, most_original_registers, fold_work_bytes}
use Rattle.netlist.specs.Rows.{Row}
use Rattle.lasso.specs.Generators.{periods_of, is_used, clock_value}
use Rattle.lasso.specs.ClockEntries.{clock_word}
use Rattle.ternary_step.specs.StateMap.{code_at}
use Rattle.period_finder.specs.PeriodStage.{lasso_in, PeriodPart}
use Rattle.fold_memory.specs.WorkMap.{state_offset, known_offset}

-- What register j, whose period is p, has in phase k, and that it is known in each of n phases.
abbrev pub phase_value : List ℕ → ℕ → ℕ → ℕ → Ternary
phase_value w j p k = value_of (code_at w (state_offset (k % p)) j)

pub record WordReady (w : List ℕ) (j p n : ℕ) : Type 0 where
  pub room : fold_work_bytes ≤ length w
  pub register : j < most_original_registers
  pub period : (1 ≤ p) × (p ≤ most_phases)
  pub phases : n ≤ most_phases
  pub known : (k : ℕ) → k < n → code_at w (state_offset (k % p)) j < 2

-- The period of row i as the definition has it, and its two bytes with n phases: its period if that is used, and its word.
abbrev pub period_at : List Row → ℕ → ℕ
period_at rows i = get_or (periods_of rows (lasso_in rows)) i 0

abbrev pub known_bytes : List Row → ℕ → ℕ → List ℕ
known_bytes rows n i =
    let p = period_at rows i in
    cond (is_used n p) (p ∷ clock_word (clock_value rows (periods_of rows (lasso_in rows)) n i) n ∷ []) (0 ∷ 0 ∷ [])

-- The periods, and the two bytes of each of the first i rows.
pub record KnownPart (rows : List Row) (n : ℕ) (w : List ℕ) (i : ℕ) : Type 0 where
  pub part : PeriodPart rows w (length rows)
  pub known : (x : ℕ) → x < i → (d : ℕ) → d < 2 → byte_at w (known_offset x + d) ≡ byte_at (known_bytes rows n x) d
