-- The clock list in the paper's words: bit k of a word is the value at phase k, so `ones` counts the phases whose value is 1; the list has one entry for each used generator, in row order.
-- Assumes nothing.
use Prim.Native.Nat.{ℕ, zero, suc, ◌+◌, ◌-◌, ◌*◌, ◌<◌, ◌≤◌, ◌/◌, ◌%◌, ◌^◌}
use mathlib.Core.Path.{◌≡◌, refl, sym, ap, ap₂, ◌∙◌, subst}
use mathlib.Core.Bool.{Bool, true, false, cond, false≢true}
use mathlib.Core.List.{List, [], ◌∷◌, ◌++◌, append-nil}
use native.Mathlib.Omega.{arith}
use native.Mathlib.Nat.{pow-suc, mul_assoc, mul_comm, mul-le-mul_right, add_comm, add-mul-div_right, add-mul-mod_self_right, mod-eq_of_lt}
use lib.Arith.{digits_div}
use lib.Pow.{pow_pos, pow-add}
use borrow.Author.Tests.{eqb-true, eq-eqb, ltb-true, lt-ltb, le-ltb}
use lib.Dec.{eqb, ltb}
use lib.ListN.{length, get_or, take, length-append, get_or-append}
use lib.Seq.{take-suc, take-length, get_or_at}
use Rattle.memory.specs.Lists.{join_below, tabulate, count_if}
use Rattle.memory.proofs.TestLaws.{cond-case, last_or, and-true, passes}
use Rattle.memory.proofs.ListLaws.{count-last, tabulate-at, tabulate-cong}
use Rattle.ternary.specs.Ternary.{Ternary, lo, hi, X, equal3}
use Rattle.netlist.specs.Rows.{Row, constant, row_at, is_register}
use Rattle.lasso.specs.LassoSearch.{Lasso}
use Rattle.lasso.specs.Generators.{period_of, periods_of, is_used, used_count, state_value, clock_value, IsPeriod}
use Rattle.lasso.proofs.LassoLaws.{IsLasso}
use Rattle.lasso.proofs.GeneratorLaws.{period-other, generator-known, period-is, period-unique}
use Rattle.lasso.specs.ClockEntries.{ClockEntry, value_bit, clock_word, bits_set, clock_entry, clock_entries, entry_at, EntryWords, ClockListWords}

bit-lt : (v : Ternary) → value_bit v < 2
bit-lt lo = omega arith
bit-lt hi = omega arith
bit-lt X = omega arith

pub bit-small : (c k : ℕ) → c < 2 → c * 2 ^ k ≤ 2 ^ k
bit-small c k h = let e : c * 2 ^ k ≤ 1 * 2 ^ k = mul-le-mul_right (2 ^ k) (omega arith) in omega arith

module _ (f : ℕ → Ternary) where
  pub word_lt : (n : ℕ) → clock_word f n < 2 ^ n
  unfolding clock_word
  word_lt zero = omega arith
  word_lt (suc n) = omega (arith, word_lt n, pow-suc 2 n, bit-small (value_bit (f n)) n (bit-lt (f n)))

  -- A bit above bit k does not change bit k.
  higher-bit : (w b k n : ℕ) → k < n → (w + b * 2 ^ n) / 2 ^ k % 2 ≡ w / 2 ^ k % 2
  higher-bit w b k n h =
      let d = n - suc k in
      let e : d + suc k ≡ n = omega arith in
      let p : b * 2 ^ n ≡ b * 2 ^ d * 2 * 2 ^ k =
      ap (λ (x : ℕ). b * 2 ^ x) (sym e)
      ∙ ap (λ (x : ℕ). b * x) (pow-add 2 d (suc k) ∙ ap (λ (x : ℕ). 2 ^ d * x) (pow-suc 2 k ∙ mul_comm (2 ^ k) 2))
      ∙ sym (mul_assoc b (2 ^ d) (2 * 2 ^ k)) ∙ sym (mul_assoc (b * 2 ^ d) 2 (2 ^ k)) in
      ap (λ (x : ℕ). (w + x) / 2 ^ k % 2) p
      ∙ ap (λ (x : ℕ). x % 2) (add-mul-div_right w (b * 2 ^ d * 2) (pow_pos k))
      ∙ add-mul-mod_self_right (w / 2 ^ k) (b * 2 ^ d) 2

  -- Bit k of the word is the value at phase k.
  pub word-bit : (n k : ℕ) → k < n → clock_word f n / 2 ^ k % 2 ≡ value_bit (f k)
  unfolding clock_word
  word-bit zero k h = absurd (omega arith)
  word-bit (suc n) k h =
      last_or k n h
      (λ l. higher-bit (clock_word f n) (value_bit (f n)) k n l ∙ word-bit n k l)
      (λ e. rw e
      (ap (λ (x : ℕ). x / 2 ^ n % 2) (add_comm (clock_word f n) (value_bit (f n) * 2 ^ n))
      ∙ ap (λ (x : ℕ). x % 2) (digits_div (value_bit (f n)) (word_lt n)) ∙ mod-eq_of_lt (bit-lt (f n))))

  -- How many of phases 0 to n - 1 have the value 1.
  abbrev pub high_phases : ℕ → ℕ
  high_phases n = count_if (λ v. equal3 v hi) (tabulate n f)

  bits-high : (n m : ℕ) → m ≤ n → bits_set (clock_word f n) m ≡ high_phases m
  unfolding bits_set
  bits-high n zero h = refl
  bits-high n (suc m) h = ap₂ ◌+◌ (bits-high n m (omega arith)) (word-bit n m h) ∙ sym (count-last (λ v. equal3 v hi) (tabulate m f) (f m))

  -- Ones, the set bits of the word, are the phases whose value is 1.
  pub ones-high : (n : ℕ) → bits_set (clock_word f n) n ≡ high_phases n
  ones-high n = bits-high n n (omega arith)

-- ---- the entries

-- A list with f i for each i below n that passes a test, in order: element j is that of the number `from j`.
module _ {A : Type 0} (test : ℕ → Bool) (f : ℕ → A) (d : A) where
  record Picks (n : ℕ) (xs : List A) : Type 0 where
    from : ℕ → ℕ
    picked : (j : ℕ) → j < length xs → (from j < n) × (test (from j) ≡ true) × (get_or xs j d ≡ f (from j))
    ascending : (j k : ℕ) → j < k → k < length xs → from j < from k
    complete : (i : ℕ) → i < n → test i ≡ true → (j : ℕ) × (j < length xs) × (from j ≡ i)

  picks-next : (n : ℕ) (xs : List A) → Picks n xs → (t : Bool) → test n ≡ t → Picks (suc n) (xs ++ cond t (f n ∷ []) [])
  picks-next n xs P false e =
      subst (Picks (suc n)) (sym (append-nil xs))
      (record {
        from = P.from;
        picked = λ j h. let b = P.picked j h in (omega (arith, b.0), b.1, b.2);
        ascending = P.ascending;
        complete = λ i h t. last_or i n h (λ l. P.complete i l t) (λ q. absurd (false≢true (sym e ∙ ap test (sym q) ∙ t)));
      })
  picks-next n xs P true e = record {
    from = from;
    picked = λ j h.
        last_or j (length xs) (omega (arith, longer, h))
        (λ l.
        let b = P.picked j l in
        let o = old j l in (
          omega (arith, o, b.0),
          ap test o ∙ b.1,
          get_or-append xs (f n ∷ []) d j l ∙ b.2 ∙ ap f (sym o),
        ))
        (λ q.
        let o = last j q in (
          omega (arith, o),
          ap test o ∙ e,
          get_or_at xs (f n) [] d j (sym q) ∙ ap f (sym o),
        ));
    ascending = λ j k l h.
        last_or k (length xs) (omega (arith, longer, h))
        (λ q. omega (arith, old j (omega arith), old k q, P.ascending j k l q))
        (λ q. omega (arith, old j (omega arith), last k q, (P.picked j (omega arith)).0));
    complete = λ i h t.
        last_or i n h
        (λ l. let c = P.complete i l t in (c.0, omega (arith, longer, c.1), old c.0 c.1 ∙ c.2))
        (λ q. (length xs, omega (arith, longer), last (length xs) refl ∙ sym q));
  }
    where
      from : ℕ → ℕ
      from j = cond (ltb j (length xs)) (P.from j) n

      longer : length (xs ++ (f n ∷ [])) ≡ length xs + 1
      longer = length-append xs (f n ∷ [])

      old : (j : ℕ) → j < length xs → from j ≡ P.from j
      old j l = rw (lt-ltb j (length xs) l)

      last : (j : ℕ) → j ≡ length xs → from j ≡ n
      last j q = rw (le-ltb j (length xs) (omega arith))

  picks-all : (n : ℕ) → Picks n (join_below n (λ i. cond (test i) (f i ∷ []) []))
  picks-all zero = record { from = λ j. 0; picked = λ j h. absurd (omega arith); ascending = λ j k l h. absurd (omega arith); complete = λ i h t. absurd (omega arith) }
  picks-all (suc n) = picks-next n _ (picks-all n) (test n) refl

-- The list of a lasso's generators.
module _ (rows : List Row) (z : Lasso) (is : IsLasso rows z) (N : ℕ) where
  abbrev ps : List ℕ
  ps = periods_of rows z

  abbrev used : ℕ → Bool
  used i = is_used N (get_or ps i 0)

  period-at : (i : ℕ) → i < length rows → get_or ps i 0 ≡ period_of rows z i
  unfolding periods_of
  period-at i h = tabulate-at (length rows) (period_of rows z) i 0 h

  entry-words : (i : ℕ) → i < length rows → used i ≡ true → EntryWords rows z N i (clock_entry rows ps N i)
  unfolding clock_entry clock_value
  entry-words i h u =
      let p = get_or ps i 0 in
      let f = clock_value rows ps N i in
      let e : p ≡ period_of rows z i = period-at i h in
      let b = and-true (ltb 0 p) (eqb (N % p) 0) u in
      let pos = ltb-true 0 p b.0 in
      let w : IsPeriod rows z i p = subst (IsPeriod rows z i) (sym e) (period-is rows z is i (omega arith)) in
      let value : (k : ℕ) → f k ≡ state_value rows i (k % p) = λ k. rw u in
      record {
        of-register = passes (is_register (row_at rows i)) (λ q. omega (arith, period-other rows z i q));
        label = refl;
        period = w;
        divides = eqb-true (N % p) 0 b.1;
        known = λ k l. generator-known rows z is i p pos w.generates (k % p);
        bits = λ k l. word-bit f N k l ∙ ap value_bit (value k);
        no-other-bit = word_lt f N;
        ones = ones-high f N ∙ ap (count_if (λ v. equal3 v hi)) (tabulate-cong N f (λ k. state_value rows i (k % p)) (λ k l. value k));
      }

  -- One entry per used generator, in row order.
  pub entries-words : ClockListWords rows z N (clock_entries rows ps N)
  unfolding clock_entries
  entries-words =
      let P : Picks used (clock_entry rows ps N) (entry_at [] 0) (length rows) (clock_entries rows ps N) = picks-all used (clock_entry rows ps N) (entry_at [] 0) (length rows) in
      record {
        row = P.from;
        within = λ j h. (P.picked j h).0;
        ascending = P.ascending;
        entry = λ j h. let b = P.picked j h in rw b.2 (entry-words (P.from j) b.0 b.1);
        complete = λ i p h r w d.
            let e : get_or ps i 0 ≡ p = period-at i h ∙ period-unique rows z is i p r w in
            P.complete i h (rw (e, lt-ltb 0 p w.nonzero, eq-eqb (N % p) 0 d));
      }

module _ (rows : List Row) (ps : List ℕ) (N : ℕ) where
  -- The entries of row i: one, or none.
  abbrev entries : ℕ → List ClockEntry
  entries i = cond (is_used N (get_or ps i 0)) (clock_entry rows ps N i ∷ []) []

  entry-count : (e : ClockEntry) (t : Bool) → length (cond t (e ∷ []) []) ≡ cond t 1 0
  entry-count e true = refl
  entry-count e false = refl

  count-upto : (n : ℕ) → n ≤ length ps → length (join_below n entries) ≡ used_count (take n ps) N
  count-upto zero h = refl
  count-upto (suc n) h =
      length-append (join_below n entries) (entries n)
      ∙ ap₂ ◌+◌ (count-upto n (omega arith)) (entry-count (clock_entry rows ps N n) (is_used N (get_or ps n 0)))
      ∙ sym (ap (count_if (is_used N)) (take-suc ps n 0 h) ∙ count-last (is_used N) (take n ps) (get_or ps n 0))

  -- One entry for each used generator.
  pub entries-count : length ps ≡ length rows → length (clock_entries rows ps N) ≡ used_count ps N
  unfolding clock_entries
  entries-count e =
      ap (λ (n : ℕ). length (join_below n entries)) (sym e)
      ∙ count-upto (length ps) (omega arith) ∙ ap (count_if (is_used N)) (take-length ps)

-- No more generators are used than there are registers.
pub used_le : (rows : List Row) (z : Lasso) (N : ℕ) → used_count (periods_of rows z) N ≤ count_if is_register rows
unfolding periods_of
used_le rows z N = subst (λ (rs : List Row). used_count (tabulate (length rows) (period_of rows z)) N ≤ count_if is_register rs) (take-length rows) (upto (length rows) (omega arith))
  where
    zero-unused : (p : ℕ) → p ≡ 0 → cond (is_used N p) 1 0 ≤ 0
    zero-unused p e = rw e (omega arith)

    at_most : (i : ℕ) (t : Bool) → is_register (row_at rows i) ≡ t → cond (is_used N (period_of rows z i)) 1 0 ≤ cond t 1 0
    at_most i true e = cond-case (λ (k : ℕ). k ≤ 1) (is_used N (period_of rows z i)) 1 0 (λ _. omega arith) (λ _. omega arith)
    at_most i false e = zero-unused (period_of rows z i) (period-other rows z i e)

    upto : (n : ℕ) → n ≤ length rows → used_count (tabulate n (period_of rows z)) N ≤ count_if is_register (take n rows)
    upto zero h = omega arith
    upto (suc n) h =
        let a = count-last (is_used N) (tabulate n (period_of rows z)) (period_of rows z n) in
        let b = ap (count_if is_register) (take-suc rows n constant h) ∙ count-last is_register (take n rows) (row_at rows n) in
        omega (arith, a, b, upto n (omega arith), at_most n (is_register (row_at rows n)) refl)
