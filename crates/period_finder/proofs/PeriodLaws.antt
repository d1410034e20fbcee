-- The period that the memory's states give a register is the definition's, if it is 8 at most.
-- Assumes nothing.
use Prim.Native.Nat.{ℕ, zero, suc, ◌+◌, ◌*◌, ◌<◌, ◌≤◌, ◌/◌, ◌%◌}
use mathlib.Core.Path.{◌≡◌, refl, sym, ap, ap₂, ◌∙◌}
use mathlib.Core.Bool.{Bool, true, false, not, cond, ◌&&◌, true≢false}
use mathlib.Core.List.{List}
use native.Mathlib.Omega.{arith}
use native.Mathlib.Decide.{dec_lt}
use native.Mathlib.Nat.{div-add-mod', mod-lt, mod-le, suc-mul}
use borrow.Author.Tests.{eqb-true, eq-eqb, not-true, not-false, le-leb, lt-leb}
use lib.Arith.{digits_mod}
use lib.Dec.{eqb}
use lib.ListN.{length, set}
use lib.Seq.{get_or-set_same, get_or-set_other}
use Rattle.memory.specs.Lists.{all_below, first_from, count_if}
use Rattle.memory.specs.Fields.{byte_at}
use Rattle.memory.proofs.TestLaws.{fails, last_or}
use Rattle.memory.proofs.ListLaws.{all_below-more, all_below-no, first-none, first_found, count-place}
use Rattle.ternary.specs.Ternary.{code_of, equal3, is_known}
use Rattle.netlist.specs.Limits.{most_phases, most_original_registers, last_state}
use Rattle.netlist.specs.Rows.{Row, row_at, decode_row, is_register, constant}
use Rattle.netlist.specs.FileFormat.{read_fields, netlist_of}
use Rattle.lasso.specs.Generators.{state_value, is_generator, period_of}
use Rattle.lasso.proofs.LassoLaws.{IsLasso, lasso-is}
use Rattle.lasso.proofs.GeneratorLaws.{period-other, period-is, period-none}
use Rattle.blockfile.specs.RowCode.{fields_in}
use Rattle.blockfile.specs.declared.Fields.{Fields}
use Rattle.ternary_step.specs.StateMap.{code_at, registers_before, state_codes, AtRow}
use Rattle.ternary_step.proofs.CodeLaws.{packed-at}
use Rattle.ternary_step.proofs.RegisterLaws.{codes_at}
use Rattle.ternary_step.proofs.StepLaws.{ValuesKept, values-set, packed-values, row_within, row_small, register-is, register-small, register-yes, register-no}
use Rattle.fold_memory.specs.WorkMap.{value_offset, state_offset}
use Rattle.period_finder.specs.PeriodStage.{lasso_in, Lassoed, holds_as, repeats_in, generator_in, small_period, period_in, PeriodPart}

-- ---- one state after another

-- x is the code of register j in state t, which starts at `base`.
module _ (w : List ℕ) (j t u x base : ℕ) (at-state : base ≡ state_offset t) (read : x ≡ code_at w base j) where
  code_is : x ≡ code_at w (state_offset t) j
  code_is = read ∙ ap (λ (o : ℕ). code_at w o j) at-state

-- A number's remainder.
pub phase-below : (t u p : ℕ) → u ≡ t % p → 1 ≤ p → u < p
phase-below t u p e h = rw e (mod-lt t h)

pub phase-early : (t u p m : ℕ) → u ≡ t % p → t < m → m ≤ last_state → u < last_state
phase-early t u p m e h l = omega (arith, e, mod-le t p)

-- The remainder of the next number.
pub mod-next : (t u p r : ℕ) → 0 < p → u ≡ t % p → r ≡ cond (eqb (u + 1) p) 0 (u + 1) → r ≡ (t + 1) % p
mod-next t u p r h e q = go (eqb (u + 1) p) refl q
  where
    below : u < p
    below = rw e (mod-lt t h)

    whole : t / p * p + u ≡ t
    whole = rw e (div-add-mod' t p)

    go : (b : Bool) → eqb (u + 1) p ≡ b → r ≡ cond b 0 (u + 1) → r ≡ (t + 1) % p
    go true k z =
        let l = eqb-true (u + 1) p k in
        let s : t + 1 ≡ suc (t / p) * p + 0 = omega (arith, suc-mul (t / p) p, whole) in
        z ∙ sym (ap (λ (x : ℕ). x % p) s ∙ digits_mod (suc (t / p)) h)
    go false k z =
        let n : u + 1 ≡ p → ⊥ = λ (l : u + 1 ≡ p). true≢false (sym (eq-eqb (u + 1) p l) ∙ k) in
        let l : u + 1 < p = less n below in
        let s : t + 1 ≡ t / p * p + (u + 1) = omega (arith, whole) in
        z ∙ sym (ap (λ (x : ℕ). x % p) s ∙ digits_mod (t / p) l)
      where
        less : (u + 1 ≡ p → ⊥) → u < p → u + 1 < p
        less n b = elim (dec_lt (u + 1) p) [ yes k ↦ k | no k ↦ absurd (n (omega arith)) ]

-- The states up to t hold as they should; r tells of state t.
module _ (w : List ℕ) (j p t u : ℕ) (r : Bool) (phase : u ≡ t % p) (holds : r ≡ holds_as w j t u) where
  holds-so : holds_as w j t (t % p) ≡ r
  holds-so = ap (holds_as w j t) (sym phase) ∙ sym holds

  pub repeats-no : (m : ℕ) → t < m → not r ≡ true → false ≡ repeats_in w m j p
  repeats-no m h e = sym (all_below-no m (λ x. holds_as w j x (x % p)) t h (holds-so ∙ not-true r e))

  pub repeats-more : repeats_in w t j p ≡ true → not r ≡ false → repeats_in w (t + 1) j p ≡ true
  repeats-more h e = all_below-more t (λ x. holds_as w j x (x % p)) h (holds-so ∙ not-false r e)

-- ---- the first generator

period-found : (f : ℕ → Bool) (p : ℕ) → 1 ≤ p → p ≤ most_phases → ((q : ℕ) → 1 ≤ q → q < p → f q ≡ false) → f p ≡ true → p ≡ small_period (first_from 1 most_phases f)
period-found f p a b h e = sym (rw (first_found 1 most_phases f p a (omega arith) h e, le-leb p most_phases b) refl)

period-missing : (f : ℕ → Bool) → ((q : ℕ) → 1 ≤ q → q ≤ most_phases → f q ≡ false) → 0 ≡ small_period (first_from 1 most_phases f)
period-missing f h = sym (rw (first-none 1 most_phases f (λ q a b. h q a (omega arith))) refl)

-- No length below p is a generator's; r tells of length p.
module _ (w : List ℕ) (m c j : ℕ) where
  abbrev pub NoLength : ℕ → Type 0
  NoLength p = (q : ℕ) → 1 ≤ q → q < p → generator_in w m c j q ≡ false

  pub length_found : (p : ℕ) (r : Bool) → 1 ≤ p → p ≤ most_phases → NoLength p → r ≡ generator_in w m c j p → r ≡ true → p ≡ period_in w m c j
  length_found p r a b h e t = period-found (generator_in w m c j) p a b h (sym e ∙ t)

  pub length_more : (p : ℕ) (r : Bool) → NoLength p → r ≡ generator_in w m c j p → r ≡ false → NoLength (p + 1)
  length_more p r h e t q a l = last_or q p (omega arith) (λ b. h q a b) (λ k. rw k (sym e ∙ t))

  pub length_none : (p : ℕ) → most_phases < p → NoLength p → 0 ≡ period_in w m c j
  length_none p l h = period-missing (generator_in w m c j) (λ q a b. h q a (omega arith))

-- The least number of which g holds, P, if it is 8 at most; 0 if there is none.
least-small : (g : ℕ → Bool) (P : ℕ) → (0 < P → g P ≡ true) → (0 < P → (q : ℕ) → 0 < q → g q ≡ true → P ≤ q) → (P ≡ 0 → (q : ℕ) → 0 < q → g q ≡ true → ⊥) → small_period (first_from 1 most_phases g) ≡ small_period P
least-small g P holds least missing = go (dec_lt 0 P) (dec_lt most_phases P)
  where
    go : Dec (0 < P) → Dec (most_phases < P) → small_period (first_from 1 most_phases g) ≡ small_period P
    go (yes a) (no b) =
        sym (period-found g P a (omega arith) (λ q h l. fails (g q) (λ e. absurd (let k = least a q h e in omega arith))) (holds a)) ∙ sym (rw (le-leb P most_phases (omega arith)) refl)
    go (yes a) (yes b) = sym (period-missing g (λ q h l. fails (g q) (λ e. absurd (let k = least a q h e in omega arith)))) ∙ sym (rw (lt-leb P most_phases b) refl)
    go (no a) b = let z : P ≡ 0 = omega arith in sym (period-missing g (λ q h l. fails (g q) (missing z q h))) ∙ sym (rw z refl)

-- ---- register i, which is register j of the states

all_below-cong : (n : ℕ) (f g : ℕ → Bool) → ((x : ℕ) → x < n → f x ≡ g x) → all_below n f ≡ all_below n g
all_below-cong zero f g h = refl
all_below-cong (suc n) f g h = ap₂ ◌&&◌ (all_below-cong n f g (λ x k. h x (omega arith))) (h n (omega arith))

module _ {rows : List Row} {w : List ℕ} (L : Lassoed rows w) where
  pub is-lasso : IsLasso rows (lasso_in rows)
  is-lasso = lasso-is rows (lasso_in rows) L.found

  pub lasso-short : ((lasso_in rows).stem + (lasso_in rows).cycle ≤ last_state) × (0 < (lasso_in rows).cycle)
  lasso-short = let e = is-lasso.repeat.earlier in (is-lasso.within, omega arith)

  module _ {i j : ℕ} (few : count_if is_register rows ≤ most_original_registers) (within : i < length rows) (number : j ≡ registers_before rows i) (register : is_register (row_at rows i) ≡ true) where
    -- What the memory holds of it in state t.
    pub lasso-code : (t : ℕ) → t < (lasso_in rows).stem + (lasso_in rows).cycle → code_at w (state_offset t) j ≡ code_of (state_value rows i t)
    lasso-code t h =
        ap (code_at w (state_offset t)) number
        ∙ packed-at w (state_offset t) (state_codes rows t (length rows)) (L.states t h) (registers_before rows i) (omega (arith, few, count-place is_register constant rows i within register))
        ∙ codes_at rows t (length rows) i (omega arith) within register

    generator-is : (p : ℕ) → generator_in w ((lasso_in rows).stem + (lasso_in rows).cycle) (lasso_in rows).cycle j p ≡ is_generator rows (lasso_in rows) i p
    unfolding is_generator
    generator-is p =
        ap (λ (b : Bool). eqb ((lasso_in rows).cycle % p) 0 && b)
        (all_below-cong ((lasso_in rows).stem + (lasso_in rows).cycle) (λ t. holds_as w j t (t % p)) (λ t. is_known (state_value rows i t) && equal3 (state_value rows i t) (state_value rows i (t % p)))
        (λ t h. rw (lasso-code t h, lasso-code (t % p) (omega (arith, mod-le t p))) refl))

    -- Its period.
    register-period : period_in w ((lasso_in rows).stem + (lasso_in rows).cycle) (lasso_in rows).cycle j ≡ small_period (period_of rows (lasso_in rows) i)
    register-period =
        let z = lasso_in rows in
        let g = generator_in w (z.stem + z.cycle) z.cycle j in
        let same : (q : ℕ) → g q ≡ true → is_generator rows z i q ≡ true = λ q e. sym (generator-is q) ∙ e in
        least-small g (period_of rows z i)
        (λ h. generator-is (period_of rows z i) ∙ (period-is rows z is-lasso i h).generates)
        (λ h q a e. (period-is rows z is-lasso i h).least q a (same q e))
        (λ h q a e. period-none rows z is-lasso i register h q a (same q e))

  period-byte : {i j : ℕ} → count_if is_register rows ≤ most_original_registers → i < length rows → j ≡ registers_before rows i → (x : ℕ) (b : Bool) → is_register (row_at rows i) ≡ b
      → x ≡ cond b (period_in w ((lasso_in rows).stem + (lasso_in rows).cycle) (lasso_in rows).cycle j) 0 → x ≡ small_period (period_of rows (lasso_in rows) i)
  period-byte few within number x true r e = e ∙ register-period few within number r
  period-byte {i} few within number x false r e = e ∙ sym (rw (period-other rows (lasso_in rows) i r) refl)

-- ---- row by row

module _ {f : List ℕ} {n i j : ℕ} (A : AtRow f n i j) (r : Fields) (read : fields_in r ≡ read_fields f i) {w : List ℕ} {m cycle : ℕ} (to : m ≡ (lasso_in (netlist_of f)).stem + (lasso_in (netlist_of f)).cycle) (round : cycle ≡ (lasso_in (netlist_of f)).cycle) (P : PeriodPart (netlist_of f) w i) where
  pub states-few : m ≤ last_state
  states-few = rw to (lasso-short P.lassoed).0

  pub register-number : r.kind ≡ 2 → j < most_original_registers
  register-number k = register-small A r read (register-yes A r read k)

  period-more : (x : ℕ) (b : Bool) → is_register (decode_row (fields_in r)) ≡ b → x ≡ cond b (period_in w m cycle j) 0 → PeriodPart (netlist_of f) (set w (value_offset i) x) (i + 1)
  period-more x b e q =
      let s = row_small A in
      let room = P.lassoed.room in
      let K : ValuesKept w (set w (value_offset i) x) = values-set A w x in
      let here : byte_at (set w (value_offset i) x) (value_offset i) ≡ small_period (period_of (netlist_of f) (lasso_in (netlist_of f)) i) =
      get_or-set_same w (value_offset i) x 0 (omega arith) ∙ period-byte P.lassoed A.ready.rows.registers (row_within A) A.number x b (register-is A r read ∙ e) (q ∙ rw (to, round) refl) in
      record {
        lassoed = record {
          found = P.lassoed.found;
          room = omega (arith, K.long);
          states = λ t h. packed-values w (set w (value_offset i) x) t (state_codes (netlist_of f) t (length (netlist_of f))) K (P.lassoed.states t h);
        };
        periods = λ y l. last_or y i (omega arith)
            (λ d. get_or-set_other w (value_offset i) (value_offset y) x 0 (λ (z : value_offset y ≡ value_offset i). omega arith) ∙ P.periods y d)
            (λ z. rw z here);
      }

  pub period-put : (x : ℕ) → r.kind ≡ 2 → x ≡ period_in w m cycle j → PeriodPart (netlist_of f) (set w (value_offset i) x) (i + 1)
  period-put x k e = period-more x true (register-yes A r read k) e

  pub no-period-put : (r.kind ≡ 2 → ⊥) → PeriodPart (netlist_of f) (set w (value_offset i) 0) (i + 1)
  no-period-put k = period-more 0 false (register-no A r read k) refl
