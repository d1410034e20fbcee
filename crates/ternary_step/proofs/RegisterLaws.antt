-- Registers among the rows: their numbers, what they hold in a state, and the codes of a state.
-- Assumes nothing.
use Prim.Native.Nat.{ℕ, zero, suc, ◌+◌, ◌<◌, ◌≤◌}
use mathlib.Core.Path.{◌≡◌, refl, sym, ap, ap₂, ◌∙◌}
use mathlib.Core.Bool.{Bool, true, false, cond, false≢true, true≢false}
use mathlib.Core.List.{List, [], ◌∷◌, ◌++◌, append-nil}
use native.Mathlib.Omega.{arith}
use native.Mathlib.Numerals.{add-one}
use native.Mathlib.Nat.{le_refl}
use borrow.Author.Tests.{eq-eqb, ne_eqb}
use lib.Dec.{eqb}
use lib.ListN.{length, get_or, length-append, get_or-append, length-map}
use lib.Seq.{take-length, get_or_at}
use Rattle.memory.specs.Lists.{count_if}
use Rattle.memory.proofs.TestLaws.{last_or}
use Rattle.memory.proofs.ListLaws.{count_next}
use Rattle.ternary.specs.Ternary.{Ternary, lo, X, not3, code_of}
use Rattle.netlist.specs.Rows.{Row, constant, input, register, and_gate, xor_gate, mux_gate, output, row_from_fields, row_at, on_register, is_register}
use Rattle.netlist.specs.Simulation.{Logic, row_value, start_by, run_state}
use Rattle.lasso.specs.TernaryRun.{ternary_logic, ternary_state}
use Rattle.netlist.specs.WellFormed.{Ordered}
use Rattle.netlist.proofs.SimulationLaws.{held, state-at, value-at}
use Rattle.lasso.specs.Generators.{state_value}
use Rattle.ternary_step.specs.StateMap.{registers_before, next_of, state_codes, step_value}

-- ---- rows by kind

-- One more register, if the kind is a register's.
pub count_yes : (k j : ℕ) → k ≡ 2 → j + 1 ≡ j + cond (eqb k 2) 1 0
count_yes k j e = rw (eq-eqb k 2 e) refl

pub count_no : (k j : ℕ) → (k ≡ 2 → ⊥) → j ≡ j + cond (eqb k 2) 1 0
count_no k j e = rw (ne_eqb k 2 e) (omega arith)

-- The fields of a register.
pub register-row : (k r a b c : ℕ) → is_register (row_from_fields k r a b c) ≡ true → row_from_fields k r a b c ≡ register r a b
register-row zero r a b c e = absurd (false≢true e)
register-row (suc zero) r a b c e = absurd (false≢true e)
register-row (suc (suc zero)) r a b c e = refl
register-row (suc (suc (suc zero))) r a b c e = absurd (false≢true e)
register-row (suc (suc (suc (suc zero)))) r a b c e = absurd (false≢true e)
register-row (suc (suc (suc (suc (suc zero))))) r a b c e = absurd (false≢true e)
register-row (suc (suc (suc (suc (suc (suc zero)))))) r a b c e = absurd (false≢true e)
register-row (suc (suc (suc (suc (suc (suc (suc k))))))) r a b c e = absurd (false≢true e)

on-other {ℓ} : {A : Type ℓ} (d : A) (f : ℕ → ℕ → ℕ → A) (r : Row) → is_register r ≡ false → on_register d f r ≡ d
on-other d f constant e = refl
on-other d f (input _ _) e = refl
on-other d f (register _ _ _) e = absurd (true≢false e)
on-other d f (and_gate _ _) e = refl
on-other d f (xor_gate _ _) e = refl
on-other d f (mux_gate _ _ _) e = refl
on-other d f (output _ _ _) e = refl

-- What is said of a register's next-value literal.
pub on-next {ℓ} : {A : Type ℓ} (d : A) (g : ℕ → A) (r : Row) → is_register r ≡ true → on_register d (λ s a l. g a) r ≡ g (next_of r)
on-next d g constant e = absurd (false≢true e)
on-next d g (input _ _) e = absurd (false≢true e)
on-next d g (register _ _ _) e = refl
on-next d g (and_gate _ _) e = absurd (false≢true e)
on-next d g (xor_gate _ _) e = absurd (false≢true e)
on-next d g (mux_gate _ _ _) e = absurd (false≢true e)
on-next d g (output _ _ _) e = absurd (false≢true e)

-- What a register would hold does not matter to another row.
pub row-held : (L : Logic) (h h' : L.Value) (i : ℕ → ℕ → L.Value) (w : ℕ → L.Value) (r : Row) → is_register r ≡ false → row_value L h i w r ≡ row_value L h' i w r
row-held L h h' i w constant e = refl
row-held L h h' i w (input _ _) e = refl
row-held L h h' i w (register _ _ _) e = absurd (true≢false e)
row-held L h h' i w (and_gate _ _) e = refl
row-held L h h' i w (xor_gate _ _) e = refl
row-held L h h' i w (mux_gate _ _ _) e = refl
row-held L h h' i w (output _ _ _) e = refl

-- A reset in range is the code of what a register starts as.
pub reset-code : (r : ℕ) → r ≤ 2 → r ≡ code_of (start_by ternary_logic r X)
unfolding not3
reset-code zero h = refl
reset-code (suc zero) h = refl
reset-code (suc (suc zero)) h = refl
reset-code (suc (suc (suc r))) h = absurd (omega arith)

module _ (rows : List Row) where
  -- ---- registers before a row

  pub before-all : registers_before rows (length rows) ≡ count_if is_register rows
  before-all = ap (count_if is_register) (take-length rows)

  before-mono : (n i : ℕ) → n ≤ length rows → i ≤ n → registers_before rows i ≤ registers_before rows n
  before-mono zero i h l = let e : i ≡ 0 = omega arith in rw e (le_refl _)
  before-mono (suc n) i h l =
      last_or i (suc n) (omega arith)
      (λ k. omega (arith, before-mono n i (omega arith) (omega arith), count_next is_register constant rows n h, add-one n, ap (registers_before rows) (add-one n)))
      (λ e. rw e (le_refl _))

  before-one : (i : ℕ) → i < length rows → is_register (row_at rows i) ≡ true → registers_before rows (i + 1) ≡ registers_before rows i + 1
  before-one i h r = count_next is_register constant rows i h ∙ ap (λ (t : Bool). registers_before rows i + cond t 1 0) r

  -- The count after a register, and after another row.
  pub before-yes : (i : ℕ) → i < length rows → is_register (row_at rows i) ≡ true → registers_before rows (suc i) ≡ suc (registers_before rows i)
  before-yes i h r = sym (ap (registers_before rows) (add-one i)) ∙ before-one i h r ∙ add-one (registers_before rows i)

  pub before-no : (i : ℕ) → i < length rows → is_register (row_at rows i) ≡ false → registers_before rows (suc i) ≡ registers_before rows i
  before-no i h r = sym (ap (registers_before rows) (add-one i)) ∙ count_next is_register constant rows i h ∙ ap (λ (t : Bool). registers_before rows i + cond t 1 0) r ∙ omega arith

  pub before-less : (n i : ℕ) → n ≤ length rows → i < n → is_register (row_at rows i) ≡ true → registers_before rows i < registers_before rows n
  before-less n i h l r = omega (arith, before-one i (omega arith) r, before-mono n (i + 1) h (omega arith))

  -- ---- the codes of a state

  module _ (t : ℕ) where
    pub codes-register : (i : ℕ) → is_register (row_at rows i) ≡ true → state_codes rows t (i + 1) ≡ state_codes rows t i ++ (code_of (state_value rows i t) ∷ [])
    unfolding state_codes
    codes-register i r = rw (add-one i, r) refl

    pub codes-other : (i : ℕ) → is_register (row_at rows i) ≡ false → state_codes rows t (i + 1) ≡ state_codes rows t i
    unfolding state_codes
    codes-other i r = rw (add-one i, r) (append-nil _)

    pub codes-length : (i : ℕ) → i ≤ length rows → length (state_codes rows t i) ≡ registers_before rows i
    unfolding state_codes
    codes-length zero h = refl
    codes-length (suc i) h =
        length-append (state_codes rows t i) _
        ∙ ap₂ ◌+◌ (codes-length i (omega arith)) (one (is_register (row_at rows i)))
        ∙ sym (count_next is_register constant rows i h) ∙ ap (registers_before rows) (add-one i)
      where
        one : (b : Bool) → length (cond b (code_of (state_value rows i t) ∷ []) []) ≡ cond b 1 0
        one true = refl
        one false = refl

    -- The code of a register stands at its number.
    pub codes_at : (n i : ℕ) → n ≤ length rows → i < n → is_register (row_at rows i) ≡ true → get_or (state_codes rows t n) (registers_before rows i) 0 ≡ code_of (state_value rows i t)
    unfolding state_codes
    codes_at zero i h l r = absurd (omega arith)
    codes_at (suc n) i h l r =
        last_or i n l
        (λ k. get_or-append (state_codes rows t n) _ 0 (registers_before rows i) (omega (arith, codes-length n (omega arith), before-less n i (omega arith) k r)) ∙ codes_at n i (omega arith) k r)
        (λ e. rw (← e, r) (get_or_at (state_codes rows t i) (code_of (state_value rows i t)) [] 0 (registers_before rows i) (codes-length i (omega arith))))

  -- ---- states and values

  pub state-held : (t i : ℕ) → state_value rows i t ≡ held ternary_logic rows (λ l. X) (λ s l p. X) t (row_at rows i)
  state-held t i = state-at ternary_logic rows (λ l. X) (λ s l p. X) t i

  pub state-other : (t i : ℕ) → is_register (row_at rows i) ≡ false → state_value rows i t ≡ lo
  state-other zero i r = state-held zero i ∙ on-other _ _ (row_at rows i) r
  state-other (suc t) i r = state-held (suc t) i ∙ on-other _ _ (row_at rows i) r

  pub state-length : (t : ℕ) → length (ternary_state rows t) ≡ length rows
  unfolding run_state
  state-length zero = length-map rows _
  state-length (suc t) = length-map rows _

  pub step-value : Ordered rows → (t i : ℕ) → i < length rows → step_value rows t i ≡ row_value ternary_logic (state_value rows i t) (λ l p. X) (step_value rows t) (row_at rows i)
  step-value o t i h =
      value-at ternary_logic rows (λ l. X) (λ s l p. X) o t i h
      ∙ ap (λ (x : Ternary). row_value ternary_logic x (λ l p. X) (step_value rows t) (row_at rows i)) (sym (state-held t i))
