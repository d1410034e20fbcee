-- Values by columns, written from the front on.
-- Assumes nothing.
use Prim.Native.Nat.{ℕ, ◌+◌, ◌*◌, ◌/◌, ◌%◌}
use mathlib.Core.Path.{◌≡◌, sym, ap, ◌∙◌}
use mathlib.Core.List.{List, [], ◌∷◌}
use native.Mathlib.Omega.{arith}
use native.Mathlib.Nat.{mul_comm, suc-mul}
use native.Mathlib.Numerals.{add-one}
use lib.ListN.{length, set}
use lib.Seq.{sets, length-sets}
use Rattle.memory.specs.Lists.{join_below, tabulate}
use Rattle.memory.specs.Slots.{slot_at}
use Rattle.memory.proofs.BufferLaws.{sets-join}
use Rattle.memory.proofs.ListLaws.{tabulate-length, join-length}
use Rattle.trace_columns.specs.TraceValues.{value_in, values_in, step_in}

module _ (columns : List ℕ) (first : ℕ) (values : List ℕ) (base : ℕ) (trace₀ : List ℕ) (to : ℕ) where
  abbrev pub PutUpto : ℕ → List ℕ → Type 0
  PutUpto i trace = trace ≡ sets trace₀ to (values_in columns first i values base)

  pub put-more : (i : ℕ) (trace : List ℕ) → PutUpto i trace → (column : ℕ) → column ≡ slot_at columns (first + i) → (x : ℕ) → x ≡ value_in values base column → PutUpto (i + 1) (set trace (to + i) x)
  put-more i trace e column c x q =
      let f : ℕ → ℕ = λ j. value_in values base (slot_at columns (first + j)) in
      let p : to + i ≡ to + length (tabulate i f) = ap (λ (k : ℕ). to + k) (sym (tabulate-length i f)) in
      let y : x ≡ f i = q ∙ ap (value_in values base) c in
      rw (e, p, y, add-one i) (sets-join (tabulate i f) (f i ∷ []) trace₀ to)

module _ (columns : List ℕ) (n N kept : ℕ) (values trace₀ : List ℕ) (to : ℕ) where
  abbrev step : ℕ → List ℕ
  step = step_in columns n N kept values

  step-length : (t : ℕ) → length (step t) ≡ n
  step-length t = tabulate-length n (λ x. value_in values (t / N * kept) (slot_at columns (t % N * n + x)))

  -- After t steps; the next one goes to `target`.
  pub record Putting (t target : ℕ) (trace : List ℕ) : Type 0 where
    pub target_is : target ≡ to + t * n
    pub long : length trace ≡ length trace₀
    pub put : trace ≡ sets trace₀ to (join_below t step)

  module _ (t target : ℕ) (trace : List ℕ) (P : Putting t target trace) where
    pub putting-more : (trace' : List ℕ) → trace' ≡ sets trace target (values_in columns (t % N * n) n values (t / N * kept)) → Putting (t + 1) (target + n) trace'
    putting-more trace' e =
        let l : length (join_below t step) ≡ n * t = join-length n step t (λ j _. step-length j) in
        let p : target ≡ to + length (join_below t step) = omega (arith, P.target_is, l, mul_comm n t) in
        record {
          target_is = omega (arith, P.target_is, suc-mul t n);
          long = ap length e ∙ length-sets trace target (step t) ∙ P.long;
          put = e ∙ ap (λ (w : List ℕ). sets w target (step t)) P.put ∙ ap (λ (x : ℕ). sets (sets trace₀ to (join_below t step)) x (step t)) p ∙ sets-join (join_below t step) (step t) trace₀ to ∙ ap (λ (k : ℕ). sets trace₀ to (join_below k step)) (sym (add-one t));
        }
