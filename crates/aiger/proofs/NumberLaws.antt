-- Numbers in a text: what is read as a number is its digits, and the digits of a number are read as it.
-- Assumes nothing.
use Prim.Native.Nat.{ℕ, zero, suc, ◌+◌, ◌-◌, ◌*◌, ◌^◌, ◌/◌, ◌%◌, ◌<◌, ◌≤◌}
use mathlib.Core.Path.{◌≡◌, refl, sym, ap, ◌∙◌, subst₂}
use mathlib.Core.Bool.{true, false, cond}
use mathlib.Core.List.{List, [], ◌∷◌, ◌++◌, append_assoc}
use mathlib.Core.Option.{some}
use native.Mathlib.Omega.{arith}
use lib.Dec.{ltb, leb}
use borrow.Author.Tests.{ltb-true, ltb-false, leb-true, eqb-true, eqb-false, lt-ltb, le-ltb, le-leb, ne_eqb}
use Rattle.memory.proofs.TestLaws.{cond-case, and-true}
use Rattle.aiger.specs.AigerText.{largest_number, digits}
use Rattle.aiger.specs.AigerReading.{is_digit, more_digits, number}
use Rattle.aiger.proofs.ReadingLaws.{Gives, none_is, given-once, cond-some, cond-holds}

-- A number has 32 bits.
pub few-fits : (n : ℕ) → n ≤ largest_number → n < 2 ^ 32
few-fits n u = omega arith

-- ---- digits

digit-of : (b : ℕ) → 48 ≤ b → b ≤ 57 → is_digit b ≡ true
digit-of b l u = rw (le-leb 48 b l, le-leb b 57 u)

digit-is : (b : ℕ) → is_digit b ≡ true → (48 ≤ b) × (b ≤ 57)
digit-is b h = let p = and-true (leb 48 b) (leb b 57) h in (leb-true 48 b p.0, leb-true b 57 p.1)

-- A number of at most k + 1 digits has no more of them if more are allowed.
digits-enough : (k n : ℕ) → n < 10 ^ suc k → digits (suc (suc k)) n ≡ digits (suc k) n
digits-enough zero n h = rw (lt-ltb n 10 (omega arith))
digits-enough (suc k) n h = ap (λ (ds : List ℕ). cond (ltb n 10) ((48 + n) ∷ []) (ds ++ ((48 + n % 10) ∷ []))) (digits-enough k (n / 10) (omega arith))

digits-one : (k n : ℕ) → n < 10 → digits (suc k) n ≡ (48 + n) ∷ []
digits-one k n h = rw (lt-ltb n 10 h)

digits_more : (k v d w : ℕ) → 0 < v → d < 10 → w ≡ 10 * v + d → digits (suc k) w ≡ digits k v ++ ((48 + d) ∷ [])
digits_more k v d w p l e =
    let q : w / 10 ≡ v = omega arith in
    let r : w % 10 ≡ d = omega arith in
    rw (le-ltb w 10 (omega arith), q, r)

-- ---- what is read is digits

-- t is the digits of n, and then r.
pub record NumberText (t : List ℕ) (n : ℕ) (r : List ℕ) : Type 0 where
  pub bytes-first : t ≡ digits 10 n ++ r
  pub few : n ≤ largest_number

text-ends : (v : ℕ) (t : List ℕ) (n : ℕ) (r : List ℕ) → v ≤ largest_number → Gives (some (v, t)) n r → NumberText (digits 10 v ++ t) n r
text-ends v t n r u h = let p = given-once v n t r h in subst₂ (NumberText (digits 10 v ++ t)) p.0 p.1 (record { bytes-first = refl; few = u })

-- One more digit b, after which the number is w.
text-more : (v b w : ℕ) (t : List ℕ) (n : ℕ) (r : List ℕ) → 0 < v → 48 ≤ b → b ≤ 57 → w ≡ 10 * v + (b - 48) → w ≤ largest_number → NumberText (digits 10 w ++ t) n r → NumberText (digits 10 v ++ (b ∷ t)) n r
text-more v b w t n r p l u e f N =
    let x : 48 + (b - 48) ≡ b = omega arith in
    record {
      bytes-first =
          ap (λ (ds : List ℕ). ds ++ (b ∷ t)) (digits-enough 8 v (omega arith))
          ∙ sym (append_assoc (digits 9 v) (b ∷ []) t)
          ∙ ap (λ (c : ℕ). (digits 9 v ++ (c ∷ [])) ++ t) (sym x)
          ∙ ap (λ (ds : List ℕ). ds ++ t) (sym (digits_more 9 v (b - 48) w p (omega arith) e))
          ∙ N.bytes-first;
      few = N.few;
    }

more-is : (v : ℕ) (t : List ℕ) (n : ℕ) (r : List ℕ) → 0 < v → v ≤ largest_number → Gives (more_digits v t) n r → NumberText (digits 10 v ++ t) n r
unfolding more_digits
more-is v [] n r p u h = text-ends v [] n r u h
more-is v (b ∷ t) n r p u h =
    let ih = more-is (10 * v + (b - 48)) t n r (omega arith) in
    cond-holds (λ o. Gives o n r) _ _ _ h
    (λ e k.
    let d = digit-is b e in
    let c = cond-some _ _ (n, r) k in
    let l = leb-true (10 * v + (b - 48)) largest_number c.0 in
    text-more v b (10 * v + (b - 48)) t n r p d.0 d.1 refl l (ih l c.1))
    (λ e k. text-ends v (b ∷ t) n r u k)

pub number_is : (t : List ℕ) (n : ℕ) (r : List ℕ) → Gives (number t) n r → NumberText t n r
unfolding number
number_is [] n r h = none_is (n, r) h
number_is (b ∷ t) n r h =
    cond-holds (λ o. Gives o n r) _ _ _ h
    (λ e k. rw (eqb-true b 48 e) (text-ends 0 t n r (omega arith) k))
    (λ e k.
    let c = cond-some _ _ (n, r) k in
    let d = digit-is b c.0 in
    let N = more-is (b - 48) t n r (omega (arith, eqb-false b 48 e)) (omega arith) c.1 in
    let x : 48 + (b - 48) ≡ b = omega arith in
    record { bytes-first = ap (λ (c : ℕ). c ∷ t) (sym x) ∙ ap (λ (ds : List ℕ). ds ++ t) (sym (digits-one 9 (b - 48) (omega arith))) ∙ N.bytes-first; few = N.few })

-- ---- digits are read

more-stops : (n b : ℕ) (t : List ℕ) → is_digit b ≡ false → Gives (more_digits n (b ∷ t)) n (b ∷ t)
unfolding more_digits
more-stops n b t h = rw h

more-goes-on : (v d w : ℕ) (t : List ℕ) → d < 10 → w ≡ 10 * v + d → w ≤ largest_number → more_digits v ((48 + d) ∷ t) ≡ more_digits w t
unfolding more_digits
more-goes-on v d w t l e u =
    let x : 10 * v + ((48 + d) - 48) ≡ w = omega arith in
    rw (digit-of (48 + d) (omega arith) (omega arith), x, le-leb w largest_number u)

number-starts : (d : ℕ) (t : List ℕ) → 0 < d → d < 10 → number ((48 + d) ∷ t) ≡ more_digits d t
unfolding number
number-starts d t p l =
    let x : (48 + d) - 48 ≡ d = omega arith in
    rw (ne_eqb (48 + d) 48 (omega arith), digit-of (48 + d) (omega arith) (omega arith), x)

positive-read : (k n : ℕ) (t : List ℕ) → 0 < n → n ≤ largest_number → n < 10 ^ k → number (digits k n ++ t) ≡ more_digits n t
positive-read zero n t p u h = absurd (omega arith)
positive-read (suc k) n t p u h =
    cond-case (λ ds. number (ds ++ t) ≡ more_digits n t) (ltb n 10) ((48 + n) ∷ []) (digits k (n / 10) ++ ((48 + n % 10) ∷ []))
    (λ e. number-starts n t p (ltb-true n 10 e))
    (λ e.
    let l = ltb-false n 10 e in
    ap number (append_assoc (digits k (n / 10)) ((48 + n % 10) ∷ []) t)
    ∙ positive-read k (n / 10) ((48 + n % 10) ∷ t) (omega arith) (omega arith) (omega arith)
    ∙ more-goes-on (n / 10) (n % 10) n t (omega arith) (omega arith) u)

-- b is no digit.
pub number-read : (n b : ℕ) (t : List ℕ) → n ≤ largest_number → is_digit b ≡ false → Gives (number (digits 10 n ++ (b ∷ t))) n (b ∷ t)
unfolding number
number-read zero b t u h = refl
number-read (suc n) b t u h = positive-read 10 (suc n) (b ∷ t) (omega arith) u (omega arith) ∙ more-stops (suc n) b t h
