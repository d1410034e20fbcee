-- A run satisfies the netlist's equations: each row's value is what its kind gives of the values in the same step.
-- Assumes nothing.
use Prim.Native.Nat.{ℕ, zero, suc, ◌<◌, ◌≤◌, ◌/◌, ◌%◌}
use mathlib.Core.Path.{◌≡◌, refl, sym, ap, ap₂, ◌∙◌}
use mathlib.Core.Bool.{Bool}
use mathlib.Core.List.{List, [], map}
use native.Mathlib.Omega.{arith}
use lib.ListN.{length, length-append, get_or-append, get_or-map}
use lib.Seq.{get_or_at}
use Rattle.memory.proofs.TestLaws.{last_or}
use Rattle.netlist.specs.Rows.{Row, constant, input, register, and_gate, xor_gate, mux_gate, output, row_at}
use Rattle.netlist.specs.Simulation.{Logic, bool_logic, complement_if, literal_value, row_value, value_at, reset_value, next_value, values_up_to, step_values, run_state, run_value}
use Rattle.netlist.specs.WellFormed.{OperandsBelow, Ordered}

module _ (L : Logic) where
  pub literal-cong : (w w' : ℕ → L.Value) (l : ℕ) → w (l / 2) ≡ w' (l / 2) → literal_value L w l ≡ literal_value L w' l
  literal-cong w w' l e = ap (complement_if L (l % 2)) e

  -- A row's value depends on what it names alone.
  pub row-cong : (h : L.Value) (i : ℕ → ℕ → L.Value) (w w' : ℕ → L.Value) (j : ℕ) → ((x : ℕ) → x < j → w x ≡ w' x) → (r : Row) → OperandsBelow j r → row_value L h i w r ≡ row_value L h i w' r
  row-cong h i w w' j e constant b = refl
  row-cong h i w w' j e (input l p) b = refl
  row-cong h i w w' j e (register r n l) b = refl
  row-cong h i w w' j e (and_gate x y) b = cc (literal-cong w w' x (e (x / 2) b.0), literal-cong w w' y (e (y / 2) b.1))
  row-cong h i w w' j e (xor_gate x y) b = cc (literal-cong w w' x (e (x / 2) b.0), literal-cong w w' y (e (y / 2) b.1))
  row-cong h i w w' j e (mux_gate x y z) b = cc (literal-cong w w' x (e (x / 2) b.0), literal-cong w w' y (e (y / 2) b.1), literal-cong w w' z (e (z / 2) b.2))
  row-cong h i w w' j e (output x l p) b = literal-cong w w' x (e (x / 2) b)

  module _ (rows : List Row) where
    module _ (s : List L.Value) (i : ℕ → ℕ → L.Value) where
      pub values_length : (n : ℕ) → length (values_up_to L rows s i n) ≡ n
      unfolding values_up_to
      values_length zero = refl
      values_length (suc n) = simp length-append (omega (arith, values_length n))

      pub values-at : (m j : ℕ) → j < m → value_at L (values_up_to L rows s i m) j ≡ row_value L (value_at L s j) i (value_at L (values_up_to L rows s i j)) (row_at rows j)
      unfolding values_up_to
      values-at zero j h = absurd (omega arith)
      values-at (suc m) j h =
          last_or j m h
          (λ k. get_or-append (values_up_to L rows s i m) _ L.low j (rw values_length k) ∙ values-at m j k)
          (λ e. rw e (get_or_at (values_up_to L rows s i m) _ [] L.low m (values_length m)))

      -- The equation of row j.
      step-at : Ordered rows → (j : ℕ) → j < length rows → value_at L (step_values L rows s i) j ≡ row_value L (value_at L s j) i (value_at L (step_values L rows s i)) (row_at rows j)
      unfolding step_values
      step-at o j h =
          values-at (length rows) j h
          ∙ row-cong (value_at L s j) i (value_at L (values_up_to L rows s i j)) (value_at L (values_up_to L rows s i (length rows))) j
          (λ x k. values-at j x k ∙ sym (values-at (length rows) x (omega arith))) (row_at rows j) (o j h)

    module _ (c : ℕ → L.Value) (i : ℕ → ℕ → ℕ → L.Value) where
      -- What a register with this row holds at step t.
      abbrev pub held : ℕ → Row → L.Value
      held zero r = reset_value L c r
      held (suc t) r = next_value L (run_value L rows c i t) r

      pub state-at : (t j : ℕ) → value_at L (run_state L rows c i t) j ≡ held t (row_at rows j)
      unfolding run_state run_value
      state-at zero j = get_or-map (reset_value L c) rows j constant
      state-at (suc t) j = get_or-map (next_value L (run_value L rows c i t)) rows j constant

      -- The equation of row j at step t.
      pub value-at : Ordered rows → (t j : ℕ) → j < length rows → run_value L rows c i t j ≡ row_value L (held t (row_at rows j)) (i t) (run_value L rows c i t) (row_at rows j)
      unfolding run_value
      value-at o t j h = step-at (run_state L rows c i t) (i t) o j h ∙ ap (λ (x : L.Value). row_value L x (i t) (run_value L rows c i t) (row_at rows j)) (state-at t j)

-- The inputs of the first t steps decide the state at t.
pub state-prefix : (rows : List Row) (c : ℕ → Bool) (u v : ℕ → ℕ → ℕ → Bool) (T : ℕ) → ((t : ℕ) → t < T → u t ≡ v t) → (t : ℕ) → t ≤ T → run_state bool_logic rows c u t ≡ run_state bool_logic rows c v t
unfolding run_state
state-prefix rows c u v T e zero h = refl
state-prefix rows c u v T e (suc t) h =
    ap₂ (λ (s : List Bool) (i : ℕ → ℕ → Bool). map (next_value bool_logic (value_at bool_logic (step_values bool_logic rows s i))) rows) (state-prefix rows c u v T e t (omega arith)) (e t h)

pub value-prefix : (rows : List Row) (c : ℕ → Bool) (u v : ℕ → ℕ → ℕ → Bool) (T : ℕ) → ((t : ℕ) → t < T → u t ≡ v t) → (t : ℕ) → t < T → (x : ℕ) → run_value bool_logic rows c u t x ≡ run_value bool_logic rows c v t x
unfolding run_value
value-prefix rows c u v T e t h x =
    ap₂ (λ (s : List Bool) (i : ℕ → ℕ → Bool). value_at bool_logic (step_values bool_logic rows s i) x) (state-prefix rows c u v T e t (omega arith)) (e t h)
