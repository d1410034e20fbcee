-- The lasso in the paper's words: it is the first repeat, compared from state 0 up; there is no other; there is none exactly if states 0 to 256 all differ. From the stem on the states repeat with the cycle. Without registers stem is 0 and cycle 1.
-- Assumes nothing.
use Prim.Native.Nat.{ℕ, zero, suc, ◌+◌, ◌-◌, ◌<◌, ◌≤◌}
use mathlib.Core.Path.{◌≡◌, refl, sym, ap, ap₂, ◌∙◌, subst}
use mathlib.Core.Logic.{◌↔◌}
use mathlib.Core.Bool.{true, false≢true}
use mathlib.Core.List.{List, [], ◌∷◌, map}
use mathlib.Core.Option.{Option, none, some, some-injective}
use native.Mathlib.Omega.{arith}
use native.Mathlib.Decide.{dec_lt}
use native.Mathlib.Nat.{add-suc, add-zero}
use borrow.Author.Tests.{ltb-true, ltb-false, leb-true, leb-false}
use lib.Dec.{ltb}
use Rattle.memory.specs.Lists.{count_if}
use Rattle.memory.proofs.TestLaws.{and-true, cond-case}
use Rattle.memory.proofs.ListLaws.{first-is, first-least}
use Rattle.ternary.specs.Ternary.{Ternary, X, equal3}
use Rattle.ternary.proofs.RuleLaws.{equal3-true, equal3-same}
use Rattle.netlist.specs.Limits.{last_state}
use Rattle.netlist.specs.Rows.{Row, constant, input, register, and_gate, xor_gate, mux_gate, output, is_register}
use Rattle.netlist.specs.Simulation.{value_at, reset_value, next_value, step_values, run_state}
use Rattle.lasso.specs.TernaryRun.{ternary_logic, ternary_state}
use Rattle.lasso.specs.LassoSearch.{equal_states, is_repeat, earlier_equal, first_repeat, Lasso, find_lasso, AllDiffer, FirstRepeat}

pub states-equal : (s s' : List Ternary) → equal_states s s' ≡ true → s ≡ s'
states-equal [] [] h = refl
states-equal [] (b ∷ bs) h = absurd (false≢true h)
states-equal (a ∷ as') [] h = absurd (false≢true h)
states-equal (a ∷ as') (b ∷ bs) h =
    let k = and-true (equal3 a b) (equal_states as' bs) h in
    cc (equal3-true a b k.0, states-equal as' bs k.1)

pub states-same : (s : List Ternary) → equal_states s s ≡ true
states-same [] = refl
states-same (a ∷ s) = rw (equal3-same a) (states-same s)

module _ (rows : List Row) where
  -- The state found is equal, and one that is equal is not before it.
  pub earlier-equal : (m : ℕ) → earlier_equal rows m < m → ternary_state rows (earlier_equal rows m) ≡ ternary_state rows m
  unfolding earlier_equal
  earlier-equal m h = states-equal _ _ ((first-is 0 m (is_repeat rows m)).holds (omega arith))

  pub earlier-least : (m n : ℕ) → ternary_state rows n ≡ ternary_state rows m → earlier_equal rows m ≤ n
  unfolding earlier_equal
  earlier-least m n e =
      first-least 0 m (is_repeat rows m) n (omega arith)
      (subst (λ (s : List Ternary). equal_states (ternary_state rows n) s ≡ true) e (states-same (ternary_state rows n)))

  pub all-differ : (m : ℕ) → ((j : ℕ) → 1 ≤ j → j < m → j ≤ earlier_equal rows j) → AllDiffer rows m
  all-differ m h a b l k e = omega (arith, h b (omega arith) k, earlier-least b a e)

  -- The first repeat that is found equals an earlier state.
  repeat-earlier : first_repeat rows ≤ last_state → earlier_equal rows (first_repeat rows) < first_repeat rows
  unfolding first_repeat
  repeat-earlier h = ltb-true _ _ ((first-is 1 last_state (λ m. ltb (earlier_equal rows m) m)).holds (omega arith))

  -- Found or not, the states before it differ.
  pub repeat-differ : AllDiffer rows (first_repeat rows)
  unfolding first_repeat
  repeat-differ =
      all-differ (first_repeat rows) (λ j a b.
      ltb-false (earlier_equal rows j) j ((first-is 1 last_state (λ m. ltb (earlier_equal rows m) m)).before j a b))

  -- Question 16: the answer is no exactly if states 0 to 256 all differ.
  pub lasso-none-iff : (find_lasso rows ≡ none) ↔ AllDiffer rows (suc last_state)
  unfolding find_lasso
  lasso-none-iff =
      cond-case (λ (o : Option Lasso). (o ≡ none) ↔ AllDiffer rows (suc last_state)) _ _ _
      (λ q. (
        λ e. absurd (let w : ◌≡◌ {A = ℕ} 0 1 = cc in omega arith),
        λ d.
            let l = repeat-earlier (leb-true (first_repeat rows) last_state q) in
            let b = leb-true (first_repeat rows) last_state q in
            absurd (d (earlier_equal rows (first_repeat rows)) (first_repeat rows) l (omega arith) (earlier-equal (first_repeat rows) l)),
      ))
      (λ q. (λ _ a b l k. repeat-differ a b l (omega (arith, leb-false (first_repeat rows) last_state q)), λ _. refl))

  -- What a lasso is: a first repeat, at state 256 at the latest.
  pub record IsLasso (z : Lasso) : Type 0 where
    pub repeat : FirstRepeat rows z.stem (z.stem + z.cycle)
    pub within : z.stem + z.cycle ≤ last_state

  pub lasso-is : (z : Lasso) → find_lasso rows ≡ some z → IsLasso z
  unfolding find_lasso
  lasso-is z =
      cond-case (λ (o : Option Lasso). o ≡ some z → IsLasso z) _ _ _
      (λ q e.
      let b = leb-true (first_repeat rows) last_state q in
      let l = repeat-earlier b in
      let w : earlier_equal rows (first_repeat rows) + (first_repeat rows - earlier_equal rows (first_repeat rows)) ≡ first_repeat rows = omega arith in
      subst IsLasso (some-injective _ _ e)
      (record {
        repeat = subst (FirstRepeat rows (earlier_equal rows (first_repeat rows))) (sym w) (record { earlier = l; equal = sym (earlier-equal (first_repeat rows) l); first = repeat-differ });
        within = omega arith;
      }))
      (λ q e. absurd (let w : ◌≡◌ {A = ℕ} 0 1 = cc in omega arith))

  -- There is no other first repeat.
  pub repeat-unique : (n m n' m' : ℕ) → FirstRepeat rows n m → FirstRepeat rows n' m' → (n ≡ n') × (m ≡ m')
  repeat-unique n m n' m' f f' =
      let l = f.earlier in
      let l' = f'.earlier in
      let w : m ≡ m' = elim (dec_lt m m') [
        | yes k ↦ absurd (f'.first n m l k (sym f.equal))
        | no k ↦ elim (dec_lt m' m) [ yes k' ↦ absurd (f.first n' m' l' k' (sym f'.equal)) | no k' ↦ omega arith ]
      ] in
      let s : ternary_state rows n ≡ ternary_state rows n' = sym f.equal ∙ ap (ternary_state rows) w ∙ f'.equal in (
        elim (dec_lt n n') [
          | yes k ↦ absurd (f.first n n' k (omega arith) s)
          | no k ↦ elim (dec_lt n' n) [ yes k' ↦ absurd (f.first n' n k' l (sym s)) | no k' ↦ omega arith ]
        ],
        w,
      )

  pub lasso-unique : (z : Lasso) → find_lasso rows ≡ some z → (n m : ℕ) → FirstRepeat rows n m → (z.stem ≡ n) × (z.stem + z.cycle ≡ m)
  lasso-unique z h n m f = repeat-unique z.stem (z.stem + z.cycle) n m (lasso-is z h).repeat f

  -- A first repeat at state 256 at the latest is found.
  pub lasso-found : (n m : ℕ) → FirstRepeat rows n m → m ≤ last_state → (z : Lasso) × (find_lasso rows ≡ some z)
  lasso-found n m f h = go (find_lasso rows) refl
    where
      go : (o : Option Lasso) → find_lasso rows ≡ o → (z : Lasso) × (find_lasso rows ≡ some z)
      go none e = absurd (lasso-none-iff.0 e n m f.earlier (omega arith) (sym f.equal))
      go (some z) e = (z, e)

  -- The states after the lasso repeat.
  pub lasso-repeats : (z : Lasso) → IsLasso z → (d : ℕ) → ternary_state rows (z.stem + z.cycle + d) ≡ ternary_state rows (z.stem + d)
  unfolding run_state
  lasso-repeats z is zero = simp add-zero is.repeat.equal
  lasso-repeats z is (suc d) =
      ap (ternary_state rows) (add-suc _ d)
      ∙ ap (λ (s : List Ternary). map (next_value ternary_logic (value_at ternary_logic (step_values ternary_logic rows s (λ l p. X)))) rows) (lasso-repeats z is d)
      ∙ sym (ap (ternary_state rows) (add-suc _ d))

-- ---- without registers

-- A row that is no register starts as it goes on.
module _ (c w : ℕ → Ternary) where
  same_next : (r : Row) (n : ℕ) → count_if is_register (r ∷ []) + n ≡ 0 → next_value ternary_logic w r ≡ reset_value ternary_logic c r
  same_next constant n h = refl
  same_next (input _ _) n h = refl
  same_next (register _ _ _) n h = absurd (omega arith)
  same_next (and_gate _ _) n h = refl
  same_next (xor_gate _ _) n h = refl
  same_next (mux_gate _ _ _) n h = refl
  same_next (output _ _ _) n h = refl

  same-state : (rows : List Row) → count_if is_register rows ≡ 0 → map (next_value ternary_logic w) rows ≡ map (reset_value ternary_logic c) rows
  same-state [] h = refl
  same-state (r ∷ rows) h = cc (same_next r (count_if is_register rows) (omega arith), same-state rows (omega arith))

-- Without registers stem is 0 and cycle 1.
pub no-registers-lasso : (rows : List Row) → count_if is_register rows ≡ 0 → find_lasso rows ≡ some (record { stem = 0; cycle = 1 })
unfolding run_state
no-registers-lasso rows h =
    let same = same-state (λ l. X) (value_at ternary_logic (step_values ternary_logic rows (ternary_state rows 0) (λ l p. X))) rows h in
    let first : FirstRepeat rows 0 1 = record { earlier = omega arith; equal = same; first = λ a b k l e. omega arith } in
    let z = lasso-found rows 0 1 first (omega arith) in
    let u = lasso-unique rows z.0 z.1 0 1 first in
    z.1 ∙ ap₂ {C = Option Lasso} (λ n m. some (record { stem = n; cycle = m })) u.0 (omega (arith, u.0, u.1))
