-- The lasso of the three-valued run: the scope paper, "Values over time" and question 16.
-- Interface: Lasso, find_lasso; AllDiffer and FirstRepeat say the same in the paper's words.
-- Assumes nothing.
use Rattle.std.specs.Prelude.{ℕ, ◌-◌, ◌<◌, ◌≡◌, ◌≢◌, Bool, true, false, cond, ◌&&◌, List, [], ◌∷◌, ltb, leb}
use Rattle.std.proofs.Math.Option.{Option, none, some}
use Rattle.memory.specs.Lists.{first_from}
use Rattle.ternary.specs.Ternary.{Ternary, equal3}
use Rattle.netlist.specs.Limits.{last_state}
use Rattle.netlist.specs.Rows.{Row}
use Rattle.lasso.specs.TernaryRun.{ternary_state}

abbrev pub equal_states : List Ternary → List Ternary → Bool
equal_states [] [] = true
equal_states [] (b ∷ bs) = false
equal_states (a ∷ as') [] = false
equal_states (a ∷ as') (b ∷ bs) = equal3 a b && equal_states as' bs

-- State n equals state m.
abbrev pub is_repeat : List Row → ℕ → ℕ → Bool
is_repeat rows m n = equal_states (ternary_state rows n) (ternary_state rows m)

-- The first state, from state 0 up, that equals state m; m if none before it does.
unfoldable pub earlier_equal : List Row → ℕ → ℕ
earlier_equal rows m = first_from 0 m (is_repeat rows m)

-- The first of states 1 to 256 that equals an earlier one; 257 if none does.
unfoldable pub first_repeat : List Row → ℕ
first_repeat rows = first_from 1 last_state (λ m. ltb (earlier_equal rows m) m)

-- If state m is the first to equal an earlier state n, stem is n and cycle is m - n.
pub record Lasso : Type 0 where
  pub stem : ℕ
  pub cycle : ℕ

-- None where question 16 is answered with no.
unfoldable pub find_lasso : List Row → Option Lasso
find_lasso rows =
    let m = first_repeat rows in
    let n = earlier_equal rows m in
    cond (leb m last_state) (some (record { stem = n; cycle = m - n })) none

-- ---- in the paper's words

-- States 0 to m - 1 all differ.
abbrev pub AllDiffer : List Row → ℕ → Type 0
AllDiffer rows m = (a b : ℕ) → a < b → b < m → ternary_state rows a ≢ ternary_state rows b

-- State m is the first to equal an earlier one, and that is state n.
pub record FirstRepeat (rows : List Row) (n m : ℕ) : Type 0 where
  pub earlier : n < m
  pub equal : ternary_state rows m ≡ ternary_state rows n
  pub first : AllDiffer rows m
