-- The gates that name a node: the last of them below a row, and that none is passed over. Row 0 is no gate, so 0 says that there is none.
-- Assumes nothing.
use Prim.Native.Nat.{ℕ, zero, suc, ◌+◌, ◌<◌, ◌≤◌}
use mathlib.Core.Path.{◌≡◌, refl, sym, ap, ◌∙◌}
use mathlib.Core.Bool.{true, false, cond, false≢true}
use mathlib.Core.List.{List}
use native.Mathlib.Omega.{arith}
use native.Mathlib.Decide.{dec_lt}
use native.Mathlib.Numerals.{add-one}
use Rattle.memory.proofs.TestLaws.{cond-case, last_or}
use Rattle.netlist.specs.Rows.{Row}
use Rattle.netlist.specs.WellFormed.{UnorderedRows}
use Rattle.ordering.specs.GateOrder.{is_in, operands_of}
use Rattle.gate_users.specs.Users.{uses, last_user}

module _ (rows : List Row) (y : ℕ) where
  pub last_more : (m : ℕ) → last_user rows y (m + 1) ≡ cond (uses rows m y) m (last_user rows y m)
  unfolding last_user
  last_more m = ap (last_user rows y) (add-one m)

  -- It is 0, or a row below m that uses y.
  pub last-below : (m : ℕ) → ¬ (last_user rows y m ≡ 0) → last_user rows y m < m
  unfolding last_user
  last-below zero h = absurd (h refl)
  last-below (suc m) h =
      cond-case (λ x. ¬ (x ≡ 0) → x < suc m) (uses rows m y) m (last_user rows y m) (λ _ _. omega arith) (λ _ k. omega (arith, last-below m k)) h

  pub last-uses : (m : ℕ) → ¬ (last_user rows y m ≡ 0) → uses rows (last_user rows y m) y ≡ true
  unfolding last_user
  last-uses zero h = absurd (h refl)
  last-uses (suc m) h =
      cond-case (λ x. ¬ (x ≡ 0) → uses rows x y ≡ true) (uses rows m y) m (last_user rows y m) (λ e _. e) (λ _ k. last-uses m k) h

  pub last_less : (m : ℕ) → ¬ (m ≡ 0) → last_user rows y m < m
  last_less m h = elim (dec_lt (last_user rows y m) m) [
    | yes k ↦ k
    | no k ↦ omega (arith, last-below m (λ (e : last_user rows y m ≡ 0). h (omega arith)))
  ]

  -- No user below m is above it.
  pub last-above : (m x : ℕ) → x < m → uses rows x y ≡ true → x ≤ last_user rows y m
  unfolding last_user
  last-above zero x h e = absurd (omega arith)
  last-above (suc m) x h e =
      cond-case (λ z. x ≤ z) (uses rows m y) m (last_user rows y m)
      (λ _. omega arith)
      (λ f. last_or x m h (λ l. last-above m x l e) (λ q. absurd (false≢true (sym f ∙ ap (λ (z : ℕ). uses rows z y) (sym q) ∙ e))))

  module _ (U : UnorderedRows rows) where
    pub constant-uses : uses rows 0 y ≡ false
    constant-uses = ap (λ (r : Row). is_in y (operands_of r)) U.constant-first
