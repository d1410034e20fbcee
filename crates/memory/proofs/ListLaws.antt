-- The laws of `all_below`, `join_below`, `tabulate`, `first_from` and `count_if`, in this order.
-- Assumes nothing.
use Prim.Native.Nat.{ℕ, zero, suc, ◌+◌, ◌*◌, ◌<◌, ◌≤◌}
use mathlib.Core.Path.{◌≡◌, refl, sym, ap, ◌∙◌}
use mathlib.Core.Logic.{◌↔◌}
use mathlib.Core.Bool.{Bool, true, false, cond, false≢true, true≢false}
use mathlib.Core.List.{List, [], ◌∷◌, ◌++◌}
use native.Mathlib.Omega.{arith}
use native.Mathlib.Numerals.{add-one}
use native.Mathlib.Decide.{dec_lt}
use native.Mathlib.Nat.{mul-suc, mul-le-mul_left}
use lib.ListN.{length, get_or, take, length-append, get_or-append}
use lib.Seq.{take-suc, get_or_at, get_or-append-add}
use Rattle.memory.specs.Lists.{all_below, join_below, tabulate, first_from, count_if}
use Rattle.memory.proofs.TestLaws.{and-true, fails, last_or, cond-case}

-- ---- all_below

pub all_below-at : (n : ℕ) (f : ℕ → Bool) → all_below n f ≡ true → (t : ℕ) → t < n → f t ≡ true
all_below-at zero f h t k = absurd (omega arith)
all_below-at (suc n) f h t k =
    let b = and-true (all_below n f) (f n) h in
    last_or t n k (λ l. all_below-at n f b.0 t l) (λ e. rw e b.1)

pub all_below-of : (n : ℕ) (f : ℕ → Bool) → ((t : ℕ) → t < n → f t ≡ true) → all_below n f ≡ true
all_below-of zero f h = refl
all_below-of (suc n) f h = rw (all_below-of n f (λ t l. h t (omega arith)), h n (omega arith))

pub all_below-iff {ℓ} : {P : ℕ → Type ℓ} (n : ℕ) (f : ℕ → Bool) → ((i : ℕ) → (f i ≡ true) ↔ P i) → (all_below n f ≡ true) ↔ ((i : ℕ) → i < n → P i)
all_below-iff n f h = (λ e i l. (h i).0 (all_below-at n f e i l), λ g. all_below-of n f (λ i l. (h i).1 (g i l)))

pub all_below-more : (n : ℕ) (f : ℕ → Bool) → all_below n f ≡ true → f n ≡ true → all_below (n + 1) f ≡ true
all_below-more n f h e = rw (add-one n, h, e) refl

pub all_below-no : (n : ℕ) (f : ℕ → Bool) (i : ℕ) → i < n → f i ≡ false → all_below n f ≡ false
all_below-no n f i h e = fails (all_below n f) (λ q. true≢false (sym (all_below-at n f q i h) ∙ e))

-- ---- join_below

pub join-cong {ℓ} : {A : Type ℓ} (n : ℕ) (f g : ℕ → List A) → ((j : ℕ) → j < n → f j ≡ g j) → join_below n f ≡ join_below n g
join-cong zero f g h = refl
join-cong (suc n) f g h = rw (join-cong n f g (λ j l. h j (omega arith)), h n (omega arith))

-- The lists all have s elements.
module _ {ℓ} {A : Type ℓ} (s : ℕ) (f : ℕ → List A) where
  pub join-length : (n : ℕ) → ((j : ℕ) → j < n → length (f j) ≡ s) → length (join_below n f) ≡ s * n
  join-length zero h = omega arith
  join-length (suc n) h = omega (arith, length-append (join_below n f) (f n), join-length n (λ j l. h j (omega arith)), h n (omega arith), mul-suc s n)

  pub join-at : (n : ℕ) → ((j : ℕ) → j < n → length (f j) ≡ s) → (j d : ℕ) (z : A) → j < n → d < s → get_or (join_below n f) (s * j + d) z ≡ get_or (f j) d z
  join-at zero h j d z b l = absurd (omega arith)
  join-at (suc n) h j d z b l =
      let w : (i : ℕ) → i < n → length (f i) ≡ s = λ i k. h i (omega arith) in
      let e = join-length n w in
      last_or j n b
      (λ k. get_or-append (join_below n f) (f n) z (s * j + d) (inside n j d k l e) ∙ join-at n w j d z k l)
      (λ k. rw k (ap (λ (x : ℕ). get_or (join_below n f ++ f n) (x + d) z) (sym e) ∙ get_or-append-add (join_below n f) (f n) d z))
    where
      inside : (n j d : ℕ) → j < n → d < s → length (join_below n f) ≡ s * n → s * j + d < length (join_below n f)
      inside n j d k l e = omega (arith, mul-le-mul_left s k, mul-suc s j)

-- ---- tabulate

pub tabulate-cong {ℓ} : {A : Type ℓ} (n : ℕ) (f g : ℕ → A) → ((j : ℕ) → j < n → f j ≡ g j) → tabulate n f ≡ tabulate n g
tabulate-cong n f g h = join-cong n (λ j. f j ∷ []) (λ j. g j ∷ []) (λ j l. rw (h j l))

pub tabulate-length {ℓ} : {A : Type ℓ} (n : ℕ) (f : ℕ → A) → length (tabulate n f) ≡ n
tabulate-length zero f = refl
tabulate-length (suc n) f = simp length-append (omega (arith, tabulate-length n f))

pub tabulate-at {ℓ} : {A : Type ℓ} (n : ℕ) (f : ℕ → A) (j : ℕ) (d : A) → j < n → get_or (tabulate n f) j d ≡ f j
tabulate-at zero f j d h = absurd (omega arith)
tabulate-at (suc n) f j d h =
    last_or j n h
    (λ k. get_or-append (tabulate n f) _ d j (rw tabulate-length k) ∙ tabulate-at n f j d k)
    (λ e. rw e (get_or_at (tabulate n f) _ [] d n (tabulate-length n f)))

-- ---- first_from

-- It is one of the numbers tried, of which f holds; or the number after them, and f holds of none.
pub record First (i n : ℕ) (f : ℕ → Bool) (r : ℕ) : Type 0 where
  pub from : i ≤ r
  pub upto : r ≤ i + n
  pub holds : r < i + n → f r ≡ true
  pub before : (j : ℕ) → i ≤ j → j < r → f j ≡ false

pub first-is : (i n : ℕ) (f : ℕ → Bool) → First i n f (first_from i n f)
first-is i zero f = record { from = omega arith; upto = omega arith; holds = λ h. absurd (omega arith); before = λ j a b. absurd (omega arith) }
first-is i (suc n) f = go (f i) refl (first-is (suc i) n f)
  where
    go : (t : Bool) → f i ≡ t → First (suc i) n f (first_from (suc i) n f) → First i (suc n) f (elim t [ true ↦ i | false ↦ first_from (suc i) n f ])
    go true e w = record { from = omega arith; upto = omega arith; holds = λ _. e; before = λ j a b. absurd (omega arith) }
    go false e w = record {
      from = omega (arith, w.from);
      upto = omega (arith, w.upto);
      holds = λ h. w.holds (omega arith);
      before = λ j a b.
          elim (dec_lt i j) [
            | yes k ↦ w.before j k b
            | no k ↦ (let q : j ≡ i = omega arith in rw q e)
          ];
    }

-- No number of which f holds is before it.
pub first-least : (i n : ℕ) (f : ℕ → Bool) (j : ℕ) → i ≤ j → f j ≡ true → first_from i n f ≤ j
first-least i n f j h e = elim (dec_lt j (first_from i n f)) [
  | yes k ↦ absurd (false≢true (sym ((first-is i n f).before j h k) ∙ e))
  | no k ↦ omega arith
]

-- A number of which f holds, and of none before it.
pub first_found : (i n : ℕ) (f : ℕ → Bool) (k : ℕ) → i ≤ k → k < i + n → ((j : ℕ) → i ≤ j → j < k → f j ≡ false) → f k ≡ true → first_from i n f ≡ k
first_found i n f k h l b e =
    let u = first-least i n f k h e in
    elim (dec_lt (first_from i n f) k) [
      | yes q ↦ absurd (false≢true (sym (b (first_from i n f) (first-is i n f).from q) ∙ (first-is i n f).holds (omega arith)))
      | no q ↦ omega arith
    ]

-- f holds of none of them: the number after them.
pub first-none : (i n : ℕ) (f : ℕ → Bool) → ((j : ℕ) → i ≤ j → j < i + n → f j ≡ false) → first_from i n f ≡ i + n
first-none i n f h = elim (dec_lt (first_from i n f) (i + n)) [
  | yes k ↦ absurd (false≢true (sym (h (first_from i n f) (first-is i n f).from k) ∙ (first-is i n f).holds k))
  | no k ↦ (let u = (first-is i n f).upto in omega arith)
]

-- Tests that agree on the n numbers find the same one.
pub first_cong : (i n : ℕ) (f g : ℕ → Bool) → ((j : ℕ) → j < i + n → f j ≡ g j) → first_from i n f ≡ first_from i n g
first_cong i zero f g h = refl
first_cong i (suc n) f g h = go (f i) (g i) (h i (omega arith)) (first_cong (suc i) n f g (λ j l. h j (omega arith)))
  where
    go : (s t : Bool) → s ≡ t → first_from (suc i) n f ≡ first_from (suc i) n g → ◌≡◌ {A = ℕ} (elim s [ true ↦ i | false ↦ first_from (suc i) n f ]) (elim t [ true ↦ i | false ↦ first_from (suc i) n g ])
    go true true e ih = refl
    go true false e ih = absurd (true≢false e)
    go false true e ih = absurd (false≢true e)
    go false false e ih = ih

-- ---- count_if

pub count-le {ℓ} : {A : Type ℓ} (f : A → Bool) (xs : List A) → count_if f xs ≤ length xs
count-le f [] = omega arith
count-le f (x ∷ xs) = cond-case (λ k. k + count_if f xs ≤ suc (length xs)) (f x) 1 0 (λ _. omega (arith, count-le f xs)) (λ _. omega (arith, count-le f xs))

pub count-last {ℓ} : {A : Type ℓ} (f : A → Bool) (xs : List A) (x : A) → count_if f (xs ++ (x ∷ [])) ≡ count_if f xs + cond (f x) 1 0
count-last f [] x = omega arith
count-last f (y ∷ ys) x = omega (arith, count-last f ys x)

module _ {ℓ} {A : Type ℓ} (f : A → Bool) (d : A) where
  -- An element of which f holds is counted, and where one is counted there is one.
  pub count-pos : (xs : List A) (x : ℕ) → x < length xs → f (get_or xs x d) ≡ true → 0 < count_if f xs
  count-pos [] x h e = absurd (omega arith)
  count-pos (y ∷ ys) zero h e = rw e (omega arith)
  count-pos (y ∷ ys) (suc x) h e = omega (arith, count-pos ys x (omega arith) e)

  pub count-some : (xs : List A) → 0 < count_if f xs → (x : ℕ) × (x < length xs) × (f (get_or xs x d) ≡ true)
  count-some [] h = absurd (omega arith)
  count-some (y ∷ ys) h = go (f y) refl h (count-some ys)
    where
      go : (t : Bool) → f y ≡ t → 0 < cond t (suc zero) zero + count_if f ys → (0 < count_if f ys → (x : ℕ) × (x < length ys) × (f (get_or ys x d) ≡ true)) → (x : ℕ) × (x < suc (length ys)) × (f (get_or (y ∷ ys) x d) ≡ true)
      go true e k ih = (0, omega arith, e)
      go false e k ih = let q = ih (omega arith) in (suc q.0, omega (arith, q.1), q.2)

  -- Of the first i elements.
  pub count_next : (xs : List A) (i : ℕ) → i < length xs → count_if f (take (i + 1) xs) ≡ count_if f (take i xs) + cond (f (get_or xs i d)) 1 0
  count_next xs i h = rw (add-one i) (ap (count_if f) (take-suc xs i d h) ∙ count-last f (take i xs) (get_or xs i d))

  pub count-some-le : (xs : List A) (i : ℕ) → (count_if f (take i xs) ≤ i) × (count_if f (take i xs) ≤ count_if f xs)
  count-some-le xs zero = (omega arith, omega arith)
  count-some-le [] (suc i) = (omega arith, omega arith)
  count-some-le (x ∷ xs) (suc i) = let h = count-some-le xs i in go (f x) h.0 h.1
    where
      go : (t : Bool) → count_if f (take i xs) ≤ i → count_if f (take i xs) ≤ count_if f xs → (cond t 1 0 + count_if f (take i xs) ≤ suc i) × (cond t 1 0 + count_if f (take i xs) ≤ cond t 1 0 + count_if f xs)
      go true h l = (omega arith, omega arith)
      go false h l = (omega arith, omega arith)

  -- An element that is counted has a place below the whole count.
  pub count-place : (xs : List A) (i : ℕ) → i < length xs → f (get_or xs i d) ≡ true → count_if f (take i xs) < count_if f xs
  count-place [] i h e = absurd (omega arith)
  count-place (x ∷ xs) zero h e = rw e (omega arith)
  count-place (x ∷ xs) (suc i) h e = omega (arith, count-place xs i (omega arith) e)
