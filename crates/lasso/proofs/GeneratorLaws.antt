-- A register with a generator shows it at every step of the three-valued run, and so of every concrete run; the period is the least length of its generators.
-- Assumes nothing.
use Prim.Native.Nat.{ℕ, zero, suc, ◌+◌, ◌-◌, ◌<◌, ◌≤◌, ◌%◌}
use mathlib.Core.Path.{◌≡◌, sym, ap, ◌∙◌, subst}
use mathlib.Core.Bool.{Bool, true, false, ◌&&◌, false≢true}
use mathlib.Core.List.{List}
use native.Mathlib.Omega.{arith}
use native.Mathlib.Decide.{dec_lt}
use native.Mathlib.Nat.{add-mod, add-zero, mod-mod, mod-mod_of_dvd, dvd_of_mod-eq-zero, mod-eq_of_lt, mod-lt}
use borrow.Author.Tests.{eqb-true, leb-true, le-leb, ltb-true}
use lib.Dec.{eqb, ltb, leb}
use lib.ListN.{length, get_or, get_or-eq_default}
use Rattle.memory.specs.Lists.{first_from, tabulate}
use Rattle.memory.proofs.TestLaws.{and-true, cond-case}
use Rattle.memory.proofs.ListLaws.{all_below-at, first-is, first-least, tabulate-length, tabulate-at}
use Rattle.ternary.specs.Ternary.{Ternary, is_known}
use Rattle.ternary.proofs.RuleLaws.{Covers, any, equal3-true}
use Rattle.netlist.specs.Rows.{Row, row_at, is_register}
use Rattle.netlist.specs.Simulation.{bool_logic, value_at, run_state}
use Rattle.lasso.specs.TernaryRun.{ternary_logic}
use Rattle.lasso.proofs.TernarySoundness.{state-covers}
use Rattle.lasso.specs.LassoSearch.{Lasso}
use Rattle.lasso.specs.Generators.{state_value, is_generator, period_of, periods_of, clock_value, IsPeriod}
use Rattle.lasso.proofs.LassoLaws.{IsLasso, lasso-repeats}

-- A row that is no register has no period.
pub period-other : (rows : List Row) (z : Lasso) (i : ℕ) → is_register (row_at rows i) ≡ false → period_of rows z i ≡ 0
unfolding period_of
period-other rows z i e = rw e

pub periods-length : (rows : List Row) (z : Lasso) → length (periods_of rows z) ≡ length rows
unfolding periods_of
periods-length rows z = tabulate-length (length rows) (period_of rows z)

module _ (rows : List Row) (z : Lasso) (is : IsLasso rows z) where
  module _ (i p : ℕ) (p-pos : 0 < p) (g : is_generator rows z i p ≡ true) where
    cycle-mod : z.cycle % p ≡ 0
    unfolding is_generator
    cycle-mod = eqb-true (z.cycle % p) 0 (and-true (eqb (z.cycle % p) 0) _ g).0

    -- A generator is no longer than the cycle.
    pub generator-le : p ≤ z.cycle
    generator-le = elim (dec_lt z.cycle p) [
      | yes k ↦ absurd (omega (arith, is.repeat.earlier, mod-eq_of_lt k, cycle-mod))
      | no k ↦ omega arith
    ]

    early : (t : ℕ) → t < z.stem + z.cycle → (is_known (state_value rows i t) ≡ true) × (state_value rows i t ≡ state_value rows i (t % p))
    unfolding is_generator
    early t h =
        let u = all_below-at _ _ (and-true (eqb (z.cycle % p) 0) _ g).1 t h in
        let k = and-true _ _ u in
        (k.0, equal3-true _ _ k.1)

    later-mod : (x : ℕ) → (x + z.cycle) % p ≡ x % p
    later-mod x = add-mod x z.cycle p ∙ simp (cycle-mod, add-zero, mod-mod)

    -- At every step, without end; f is a bound for the induction.
    generator-upto : (f t : ℕ) → t ≤ f → state_value rows i t ≡ state_value rows i (t % p)
    generator-upto zero t h = (early t (omega (arith, is.repeat.earlier))).1
    generator-upto (suc f) t h = elim (dec_lt t (z.stem + z.cycle)) [
      | yes l ↦ (early t l).1
      | no l ↦
          (let d = t - (z.stem + z.cycle) in
          let c = is.repeat.earlier in
          let e : t ≡ z.stem + z.cycle + d = omega arith in
          let e' : t ≡ z.stem + d + z.cycle = omega arith in
          ap (state_value rows i) e
          ∙ ap (λ (s : List Ternary). value_at ternary_logic s i) (lasso-repeats rows z is d)
          ∙ generator-upto f (z.stem + d) (omega arith)
          ∙ ap (state_value rows i) (sym (later-mod (z.stem + d)) ∙ ap (λ (s : ℕ). s % p) (sym e')))
    ]

    pub generator-always : (t : ℕ) → state_value rows i t ≡ state_value rows i (t % p)
    generator-always t = generator-upto t t (omega arith)

    -- It is never X.
    pub generator-known : (t : ℕ) → is_known (state_value rows i t) ≡ true
    generator-known t = ap is_known (generator-always t) ∙ (early (t % p) (omega (arith, mod-lt t p-pos, generator-le))).0

  -- Of a number n: if it is not 0 it is the period of row i, and if it is 0 a register in row i has no generator.
  abbrev Answers : ℕ → ℕ → Type 0
  Answers i n = (0 < n → IsPeriod rows z i n) × (is_register (row_at rows i) ≡ true → n ≡ 0 → (q : ℕ) → 0 < q → is_generator rows z i q ≡ true → ⊥)

  period-answers : (i : ℕ) → Answers i (period_of rows z i)
  unfolding period_of
  period-answers i =
      let n = first_from 1 z.cycle (is_generator rows z i) in
      let f = first-is 1 z.cycle (is_generator rows z i) in
      cond-case (Answers i) (is_register (row_at rows i) && leb n z.cycle) n 0
      (λ b. (
        λ h. record { nonzero = h; generates = f.holds (omega (arith, leb-true n z.cycle (and-true (is_register (row_at rows i)) _ b).1)); least = λ q k e. first-least 1 z.cycle (is_generator rows z i) q k e },
        λ _ h q k e. omega (arith, h, f.from),
      ))
      (λ b. (
        λ h. absurd (omega arith),
        λ r h q k e. false≢true (sym b ∙ rw (r, le-leb n z.cycle (omega (arith, first-least 1 z.cycle (is_generator rows z i) q k e, generator-le i q k e)))),
      ))

  pub period-is : (i : ℕ) → 0 < period_of rows z i → IsPeriod rows z i (period_of rows z i)
  period-is i = (period-answers i).0

  pub period-none : (i : ℕ) → is_register (row_at rows i) ≡ true → period_of rows z i ≡ 0 → (q : ℕ) → 0 < q → is_generator rows z i q ≡ true → ⊥
  period-none i = (period-answers i).1

  -- There is no other period.
  pub period-unique : (i p : ℕ) → is_register (row_at rows i) ≡ true → IsPeriod rows z i p → period_of rows z i ≡ p
  period-unique i p r w = elim (dec_lt 0 (period_of rows z i)) [
    | yes h ↦ (let v = period-is i h in omega (arith, v.least p w.nonzero w.generates, w.least (period_of rows z i) h v.generates))
    | no h ↦ absurd (period-none i r (omega arith) p w.nonzero w.generates)
  ]

  -- A period in the list generates its row.
  pub periods-generate : (i : ℕ) → 0 < get_or (periods_of rows z) i 0 → is_generator rows z i (get_or (periods_of rows z) i 0) ≡ true
  unfolding periods_of
  periods-generate i = elim (dec_lt i (length rows)) [
    | yes h ↦ rw (tabulate-at (length rows) (period_of rows z) i 0 h) (λ k. (period-is i k).generates)
    | no h ↦ rw (get_or-eq_default (tabulate (length rows) (period_of rows z)) 0 {n = i} (rw tabulate-length (omega arith))) (λ k. absurd (omega arith))
  ]

  -- What is known of row i in phase t mod N holds of every concrete run at step t.
  pub clock-covers : (N i t : ℕ) (c : ℕ → Bool) (u : ℕ → ℕ → ℕ → Bool) → Covers (clock_value rows (periods_of rows z) N i (t % N)) (value_at bool_logic (run_state bool_logic rows c u t) i)
  unfolding clock_value
  clock-covers N i t c u =
      cond-case (λ (v : Ternary). Covers v (value_at bool_logic (run_state bool_logic rows c u t) i)) _ _ _
      (λ b.
      let k = and-true (ltb 0 p) _ b in
      let pos = ltb-true 0 p k.0 in
      let d = dvd_of_mod-eq-zero p (eqb-true (N % p) 0 k.1) in
      subst (λ (v : Ternary). Covers v (value_at bool_logic (run_state bool_logic rows c u t) i))
      (generator-always i p pos (periods-generate i pos) t ∙ ap (state_value rows i) (sym (mod-mod_of_dvd p t d)))
      (state-covers rows c u t i))
      (λ _. any)
    where
      p : ℕ
      p = get_or (periods_of rows z) i 0
