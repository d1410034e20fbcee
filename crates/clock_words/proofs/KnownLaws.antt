-- What is known of each row in each phase: the two bytes that are put are the definition's, and they are read as it says.
-- Assumes nothing.
use Prim.Native.Nat.{ℕ, zero, suc, ◌+◌, ◌*◌, ◌<◌, ◌≤◌, ◌%◌, ◌^◌}
use mathlib.Core.Path.{◌≡◌, refl, sym, ap, ap₂, ◌∙◌, subst}
use mathlib.Core.Bool.{Bool, true, false, cond, true≢false, false≢true}
use mathlib.Core.List.{List, [], ◌∷◌}
use native.Mathlib.Omega.{arith}
use native.Mathlib.Numerals.{add-one}
use native.Mathlib.Decide.{dec_lt}
use native.Mathlib.Nat.{add-zero, mod-lt, pow-le-pow_right}
use borrow.Author.Tests.{ne_eqb, ltb-true, le-leb}
use lib.Dec.{eqb, ltb}
use lib.Pow.{shl_exact}
use lib.ListN.{length}
use lib.Seq.{sets}
use Rattle.memory.specs.Lists.{count_if}
use Rattle.memory.specs.Fields.{byte_at}
use Rattle.memory.specs.Frames.{KeptOutside}
use Rattle.memory.proofs.TestLaws.{and-true, last_or, cond-case}
use Rattle.memory.proofs.ListLaws.{all_below-at, tabulate-at, count-place}
use Rattle.memory.proofs.FrameLaws.{kept_sets, sets-at}
use Rattle.ternary.specs.Ternary.{Ternary, lo, hi, X, code_of, value_of, is_known}
use Rattle.ternary.proofs.RuleLaws.{value-of-code}
use Rattle.netlist.specs.Limits.{most_phases, most_original_rows, most_original_registers, last_state}
use Rattle.netlist.specs.Rows.{Row, row_at, is_register, constant}
use Rattle.netlist.specs.FileFormat.{netlist_of}
use Rattle.lasso.specs.Generators.{state_value, is_generator, period_of, periods_of, is_used, clock_value}
use Rattle.lasso.specs.ClockEntries.{value_bit, clock_word}
use Rattle.lasso.proofs.GeneratorLaws.{period-other, period-is, generator-le}
use Rattle.lasso.proofs.ClockLaws.{word_lt, word-bit}
use Rattle.ternary_step.specs.StateMap.{code_at, registers_before, state_codes, AtRow}
use Rattle.ternary_step.proofs.CodeLaws.{packed-kept}
use Rattle.ternary_step.proofs.StepLaws.{row_small}
use Rattle.period_finder.specs.PeriodStage.{lasso_in, small_period, PeriodPart}
use Rattle.period_finder.proofs.PeriodLaws.{is-lasso, lasso-short, lasso-code}
use Rattle.period_finder.proofs.CountLaws.{used-above, used-small}
use Rattle.fold_memory.specs.WorkMap.{value_offset, state_bytes, state_offset, known_offset, known_in}
use Rattle.clock_words.specs.KnownStage.{phase_value, WordReady, period_at, known_bytes, KnownPart}

-- ---- the word

pub bit-exact : (c k : ℕ) → c < 2 → k < most_phases → (c * 2 ^ k) % 2 ^ 64 ≡ c * 2 ^ k
bit-exact c k h l = shl_exact 1 k 64 (omega arith) (omega arith)

bit-of-code : (c : ℕ) → c < 2 → c ≡ value_bit (value_of c)
bit-of-code zero h = refl
bit-of-code (suc zero) h = refl
bit-of-code (suc (suc c)) h = absurd (omega arith)

power_small : (k n : ℕ) → k ≤ n → n ≤ most_phases → 2 ^ k ≤ 2 ^ 8
power_small k n a b = pow-le-pow_right {n = 2} (omega arith) {i = k} {j = 8} (omega arith)

module _ (f : ℕ → Ternary) where
  pub word_none : 0 ≡ clock_word f 0
  unfolding clock_word
  word_none = refl

  pub word_more : (k w c b : ℕ) → w ≡ clock_word f k → f k ≡ value_of c → c < 2 → b ≡ c * 2 ^ k → w + b ≡ clock_word f (k + 1)
  unfolding clock_word
  word_more k w c b p q h e = rw (add-one k) (ap₂ ◌+◌ p (e ∙ ap (λ (x : ℕ). x * 2 ^ k) (bit-of-code c h ∙ ap value_bit (sym q))))

  -- A word of n phases is a byte, and so is what is added on the way.
  pub word_small : (w k n : ℕ) → w ≡ clock_word f k → k ≤ n → n ≤ most_phases → w < 2 ^ 8
  word_small w k n e a b = omega (arith, e, word_lt f k, power_small k n a b)

  -- The word of all n phases, of which the first k are no fewer.
  pub word-done : (w k n : ℕ) → w ≡ clock_word f k → k ≤ n → n ≤ k → w ≡ clock_word f n
  word-done w k n e a b = let q : k ≡ n = omega arith in e ∙ ap (clock_word f) q

  word_same : (g : ℕ → Ternary) (n : ℕ) → ((k : ℕ) → k < n → f k ≡ g k) → clock_word f n ≡ clock_word g n
  unfolding clock_word
  word_same g zero h = refl
  word_same g (suc n) h = ap₂ ◌+◌ (word_same g n (λ k l. h k (omega arith))) (ap (λ (v : Ternary). value_bit v * 2 ^ n) (h n (omega arith)))

sum-small : (w b k : ℕ) → w < 2 ^ 8 → b ≤ 2 ^ k → k < most_phases → w + b < 2 ^ 64
sum-small w b k h l m = omega (arith, power_small k most_phases (omega arith) (omega arith))

-- Phase k of a register whose period is p.
module _ {w : List ℕ} {j p n : ℕ} (R : WordReady w j p n) (k : ℕ) where
  phase-less : k % p < most_phases
  phase-less = let q = R.period in let a = q.0 in let b = q.1 in omega (arith, mod-lt k a)

  pub phase-asks : k % p ≤ last_state
  phase-asks = let l = phase-less in omega arith

  module _ {base : ℕ} (at-state : base ≡ state_offset (k % p)) where
    pub code-room : base + state_bytes ≤ length w
    code-room = let l = phase-less in let r = R.room in omega arith

    module _ (h : k < n) {x : ℕ} (e : x ≡ code_at w base j) where
      code_is : code_at w (state_offset (k % p)) j ≡ x
      code_is = sym (e ∙ ap (λ (b : ℕ). code_at w b j) at-state)

      phase-read : phase_value w j p k ≡ value_of x
      phase-read = ap value_of code_is

      pub phase-bit : x < 2
      phase-bit = rw code_is at (R.known k h)

      pub word_next : {word b : ℕ} → word ≡ clock_word (phase_value w j p) k → b ≡ x * 2 ^ k → word + b ≡ clock_word (phase_value w j p) (k + 1)
      word_next {word} {b} q e₁ = word_more (phase_value w j p) k word x b q phase-read phase-bit e₁

  pub word_fits : k < n → {word b : ℕ} → word ≡ clock_word (phase_value w j p) k → b ≤ 2 ^ k → word + b < 2 ^ 64
  word_fits h {word} {b} q l =
      let m = R.phases in
      sum-small word b k (word_small (phase_value w j p) word k n q (omega arith) m) l (omega arith)

-- ---- row i

-- Its first byte.
pub known-first : (w : List ℕ) (i : ℕ) (vs : List ℕ) → ((d : ℕ) → d < 2 → byte_at w (known_offset i + d) ≡ byte_at vs d) → byte_at w (known_offset i) ≡ byte_at vs 0
known-first w i vs bytes = ap (byte_at w) (sym (add-zero (known_offset i))) ∙ bytes 0 (omega arith)

module _ {rows : List Row} {w : List ℕ} (P : PeriodPart rows w (length rows)) {i : ℕ} (within : i < length rows) where
  -- Its period in the list.
  period-at : period_at rows i ≡ period_of rows (lasso_in rows) i
  unfolding periods_of
  period-at = tabulate-at (length rows) (period_of rows (lasso_in rows)) i 0 within

  module _ {n : ℕ} (from : 1 ≤ n) (to : n ≤ most_phases) where
    pub byte-used : is_used n (byte_at w (value_offset i)) ≡ is_used n (period_at rows i)
    byte-used = ap (is_used n) (P.periods i within) ∙ used-small n (period_of rows (lasso_in rows) i) from to ∙ ap (is_used n) (sym period-at)

    module _ (used : is_used n (period_at rows i) ≡ true) where
      pub positive : 0 < period_at rows i
      positive = ltb-true 0 (period_at rows i) (and-true (ltb 0 (period_at rows i)) _ used).0

      small : period_at rows i ≤ most_phases
      small = elim (dec_lt most_phases (period_at rows i)) [
        | yes h ↦ absurd (true≢false (sym used ∙ used-above n (period_at rows i) from (omega arith)))
        | no h ↦ omega arith
      ]

      byte-is : byte_at w (value_offset i) ≡ period_at rows i
      byte-is = P.periods i within ∙ ap small_period (sym period-at) ∙ rw (le-leb (period_at rows i) most_phases small) refl

      period-pos : 0 < period_of rows (lasso_in rows) i
      period-pos = rw period-at at positive

      generates : is_generator rows (lasso_in rows) i (period_at rows i) ≡ true
      generates = rw period-at (period-is rows (lasso_in rows) (is-lasso P.lassoed) i period-pos).generates

      pub is-register : is_register (row_at rows i) ≡ true
      is-register = by-test (is_register (row_at rows i)) refl
        where
          by-test : (b : Bool) → is_register (row_at rows i) ≡ b → b ≡ true
          by-test true e = refl
          by-test false e = absurd (let z = period-other rows (lasso_in rows) i e in let q = period-pos in omega arith)

      -- It is known in each of its phases.
      phase-early : (k : ℕ) → k % period_at rows i < (lasso_in rows).stem + (lasso_in rows).cycle
      phase-early k = omega (arith, mod-lt k positive, generator-le rows (lasso_in rows) (is-lasso P.lassoed) i (period_at rows i) positive generates)

      phase-known : (k : ℕ) → is_known (state_value rows i (k % period_at rows i)) ≡ true
      unfolding is_generator
      phase-known k =
          (and-true _ _ (all_below-at _ _ (and-true (eqb ((lasso_in rows).cycle % period_at rows i) 0) _ generates).1 (k % period_at rows i) (phase-early k))).0

      clock-used : (k : ℕ) → clock_value rows (periods_of rows (lasso_in rows)) n i k ≡ state_value rows i (k % period_at rows i)
      unfolding clock_value
      clock-used k = rw used refl

      module _ {j : ℕ} (few : count_if is_register rows ≤ most_original_registers) (number : j ≡ registers_before rows i) where
        phase-code : (k : ℕ) → code_at w (state_offset (k % period_at rows i)) j ≡ code_of (state_value rows i (k % period_at rows i))
        phase-code k = lasso-code P.lassoed few within number is-register (k % period_at rows i) (phase-early k)

        pub word-asks : {p : ℕ} → p ≡ byte_at w (value_offset i) → WordReady w j p n
        word-asks {p} e =
            let q : period_at rows i ≡ p = sym byte-is ∙ sym e in
            subst (λ (x : ℕ). WordReady w j x n) q
            (record {
              room = P.lassoed.room;
              register = omega (arith, few, number, count-place is_register constant rows i within is-register);
              period = (positive, small);
              phases = to;
              known = λ k h. rw (phase-code k) (ltb-true (code_of (state_value rows i (k % period_at rows i))) 2 (phase-known k));
            })

        -- The two bytes of a row whose generator is used.
        pub known-used : {p : ℕ} → p ≡ byte_at w (value_offset i) → (x : ℕ) → x ≡ clock_word (phase_value w j p) n → p ∷ x ∷ [] ≡ known_bytes rows n i
        known-used {p} e x h =
            let q : p ≡ period_at rows i = e ∙ byte-is in
            let v : x ≡ clock_word (clock_value rows (periods_of rows (lasso_in rows)) n i) n =
            h ∙ ap (λ (y : ℕ). clock_word (phase_value w j y) n) q
            ∙ word_same (phase_value w j (period_at rows i)) (clock_value rows (periods_of rows (lasso_in rows)) n i) n
            (λ k l. ap value_of (phase-code k) ∙ value-of-code (state_value rows i (k % period_at rows i)) ∙ sym (clock-used k)) in
            rw used (ap₂ (λ (a b : ℕ). a ∷ b ∷ []) q v)

    -- The two bytes of any other row.
    pub known-unused : is_used n (period_at rows i) ≡ false → 0 ∷ 0 ∷ [] ≡ known_bytes rows n i
    known-unused unused = rw unused refl

    clock-unused : is_used n (period_at rows i) ≡ false → (k : ℕ) → clock_value rows (periods_of rows (lasso_in rows)) n i k ≡ X
    unfolding clock_value
    clock-unused e k = rw e refl

    -- What the bytes say is what the definition does.
    pub known_is : ((d : ℕ) → d < 2 → byte_at w (known_offset i + d) ≡ byte_at (known_bytes rows n i) d) → (k : ℕ) → k < n → known_in w i k ≡ clock_value rows (periods_of rows (lasso_in rows)) n i k
    known_is bytes k h = by-test (is_used n (period_at rows i)) refl
      where
        value-of-bit : (v : Ternary) → is_known v ≡ true → cond (eqb (value_bit v) 0) lo hi ≡ v
        value-of-bit lo e = refl
        value-of-bit hi e = refl
        value-of-bit X e = absurd (false≢true e)

        by-test : (b : Bool) → is_used n (period_at rows i) ≡ b → known_in w i k ≡ clock_value rows (periods_of rows (lasso_in rows)) n i k
        by-test true e =
            let f = clock_value rows (periods_of rows (lasso_in rows)) n i in
            let a : byte_at w (known_offset i) ≡ period_at rows i = known-first w i (known_bytes rows n i) bytes ∙ rw e refl in
            let b : byte_at w (known_offset i + 1) ≡ clock_word f n = bytes 1 (omega arith) ∙ rw e refl in
            let p = positive e in
            rw (a, b, ne_eqb (period_at rows i) 0 (λ (z : period_at rows i ≡ 0). omega arith), word-bit f n k h) (value-of-bit (f k) (ap is_known (clock-used e k) ∙ phase-known e k))
        by-test false e = let a : byte_at w (known_offset i) ≡ 0 = known-first w i (known_bytes rows n i) bytes ∙ rw e refl in rw a (sym (clock-unused e k))

-- ---- row by row

pub known-length : (rows : List Row) (n i : ℕ) → length (known_bytes rows n i) ≡ 2
known-length rows n i = cond-case (λ (vs : List ℕ). length vs ≡ 2) (is_used n (period_at rows i)) _ _ (λ _. refl) (λ _. refl)

pub known_start : (rows : List Row) (n : ℕ) (w : List ℕ) (m : ℕ) → m ≡ length rows → PeriodPart rows w m → KnownPart rows n w 0
known_start rows n w m e P = record { part = subst (PeriodPart rows w) e P; known = λ x h. absurd (omega arith) }

pub known-all : (rows : List Row) (n : ℕ) (w : List ℕ) (i m : ℕ) → i ≤ m → m ≤ i → KnownPart rows n w i → KnownPart rows n w m
known-all rows n w i m a b K = let e : i ≡ m = omega arith in subst (KnownPart rows n w) e K

-- The periods stay while the known bytes change.
periods-kept : {rows : List Row} {w w' : List ℕ} → length rows ≤ most_original_rows → KeptOutside (known_offset 0) (known_offset most_original_rows) w w' → PeriodPart rows w (length rows) → PeriodPart rows w' (length rows)
periods-kept {rows} {w} {w'} few K P =
    let short = (lasso-short P.lassoed).0 in
    let room = P.lassoed.room in
    record {
      lassoed = record {
        found = P.lassoed.found;
        room = omega (arith, K.long);
        states = λ t h.
            packed-kept w (state_offset t) (state_codes rows t (length rows)) (P.lassoed.states t h) w'
            (λ k l. K.before (state_offset t + k) (omega arith));
      };
      periods = λ x h. K.before (value_offset x) (omega arith) ∙ P.periods x h;
    }

module _ {f : List ℕ} {m i j n : ℕ} (A : AtRow f m i j) {w : List ℕ} (P : KnownPart (netlist_of f) n w i) where
  pub known_more : (w' : List ℕ) → w' ≡ sets w (known_offset i) (known_bytes (netlist_of f) n i) → KeptOutside (known_offset 0) (known_offset most_original_rows) w w' × KnownPart (netlist_of f) n w' (i + 1)
  known_more w' e = subst (λ (v : List ℕ). KeptOutside (known_offset 0) (known_offset most_original_rows) w v × KnownPart (netlist_of f) n v (i + 1)) (sym e) (K, record { part = periods-kept A.ready.rows.small K P.part; known = bytes })
    where
      vs : List ℕ
      vs = known_bytes (netlist_of f) n i

      K : KeptOutside (known_offset 0) (known_offset most_original_rows) w (sets w (known_offset i) (known_bytes (netlist_of f) n i))
      K = let s = row_small A in let l = known-length (netlist_of f) n i in kept_sets (known_offset 0) (known_offset most_original_rows) (known_bytes (netlist_of f) n i) w (known_offset i) (omega arith) (omega arith)

      bytes : (x : ℕ) → x < i + 1 → (d : ℕ) → d < 2 → byte_at (sets w (known_offset i) (known_bytes (netlist_of f) n i)) (known_offset x + d) ≡ byte_at (known_bytes (netlist_of f) n x) d
      bytes x h d l =
          let len = known-length (netlist_of f) n i in
          let s = row_small A in
          let room = P.part.lassoed.room in
          last_or x i (omega arith)
          (λ b. (kept_sets (known_offset i) (known_offset i + 2) (known_bytes (netlist_of f) n i) w (known_offset i) (omega arith) (omega arith)).before (known_offset x + d) (omega arith) ∙ P.known x b d l)
          (λ q. rw q (sets-at (known_bytes (netlist_of f) n i) w (known_offset i) d (omega arith) (omega arith)))
