-- What the search for the lasso answers and leaves in the work memory.
-- Interface: LassoDone.
-- Assumes nothing.
use Rattle.std.specs.Prelude.{ℕ, suc, ◌+◌, ◌*◌, ◌<◌, ◌^◌, ◌≡◌, Bool, List, eqb, Option, Some, None}
use Rattle.std.proofs.Math.Option.{Option as Maybe, none, some}
use Rattle.memory.specs.Fields.{u32_at}
use Rattle.memory.specs.Frames.{KeptOutside}
use Rattle.netlist.specs.Limits.{last_state}
use Rattle.netlist.specs.Rows.{Row}
use Rattle.lasso.specs.LassoSearch.{Lasso, find_lasso}
use Rattle.ternary_step.specs.StateMap.{Stored}
use Rattle.fold_memory.specs.WorkMap.{value_offset, state_offset}
use Rattle.lasso_search.specs.declared.Lasso.{Lasso as FoundLasso}

-- Eight bytes as one number, and whether word k behind a is that behind b.
abbrev pub word_at : List ℕ → ℕ → ℕ
word_at w p = u32_at w p + 2 ^ 32 * u32_at w (p + 4)

abbrev pub same_word : List ℕ → ℕ → ℕ → ℕ → Bool
same_word w a b k = eqb (word_at w (a + 8 * k)) (word_at w (b + 8 * k))

abbrev pub repeat_of : Maybe Lasso → Option FoundLasso
repeat_of none = None
repeat_of (some z) = Some (record { stem = z.stem; cycle = z.cycle })

-- The lasso is found or there is none; if it is found, the states before the repeat stand in the memory. w is the memory before, w' after.
pub record LassoDone (rows : List Row) (w w' : List ℕ) (r : Option FoundLasso) : Type 0 where
  pub answer : r ≡ repeat_of (find_lasso rows)
  pub states : (z : Lasso) → find_lasso rows ≡ some z → (t : ℕ) → t < z.stem + z.cycle → Stored rows w' t
  pub kept : KeptOutside (value_offset 0) (state_offset (suc last_state)) w w'
