-- What the outcome of a test says: case splits of `cond`, `&&`, `||` and of a number below a bound; and what a test means, both ways.
-- Assumes nothing.
use Prim.Native.Nat.{ℕ, suc, ◌<◌, ◌≤◌}
use mathlib.Core.Path.{◌≡◌, refl}
use mathlib.Core.Logic.Iff
use mathlib.Core.Logic.{◌↔◌}
use mathlib.Core.Bool.{Bool, true, false, cond, not, ◌&&◌, ◌||◌, false≢true, true≢false, and-eq-true_iff}
use native.Mathlib.Omega.{arith}
use native.Mathlib.Decide.{dec_lt}
use lib.Dec.{eqb, ltb, leb}
use borrow.Author.Tests.{ltb-true, leb-true, eqb-true, lt-ltb, le-leb, eq-eqb, not-true}

pub cond-case {ℓ κ} : {A : Type ℓ} (P : A → Type κ) (t : Bool) (x y : A) → (t ≡ true → P x) → (t ≡ false → P y) → P (cond t x y)
cond-case P true x y f g = f refl
cond-case P false x y f g = g refl

pub or_case {ℓ} : {P : Type ℓ} (a b : Bool) → a || b ≡ true → (a ≡ true → P) → (b ≡ true → P) → P
or_case true b h f g = f refl
or_case false b h f g = g h

pub and-true : (a b : Bool) → a && b ≡ true → (a ≡ true) × (b ≡ true)
and-true true b h = (refl, h)
and-true false b h = absurd (false≢true h)

pub not-both : (t : Bool) → not t ≡ true → t ≡ true → ⊥
not-both true h k = false≢true h
not-both false h k = false≢true k

-- A test is passed where its failing is absurd.
pub passes : (t : Bool) → (t ≡ false → ⊥) → t ≡ true
passes true f = refl
passes false f = absurd (f refl)

pub fails : (t : Bool) → (t ≡ true → ⊥) → t ≡ false
fails true f = absurd (f refl)
fails false f = refl

-- j is the last below suc m, or below m.
pub last_or {ℓ} : {P : Type ℓ} (j m : ℕ) → j < suc m → (j < m → P) → (j ≡ m → P) → P
last_or j m h f g = elim (dec_lt j m) [ yes k ↦ f k | no k ↦ g (omega arith) ]

-- ---- what a test means

pub leb-iff : (a b : ℕ) → (leb a b ≡ true) ↔ (a ≤ b)
leb-iff a b = (leb-true a b, le-leb a b)

pub ltb_iff : (a b : ℕ) → (ltb a b ≡ true) ↔ (a < b)
ltb_iff a b = (ltb-true a b, lt-ltb a b)

pub eqb-iff : (a b : ℕ) → (eqb a b ≡ true) ↔ (a ≡ b)
eqb-iff a b = (eqb-true a b, eq-eqb a b)

pub not_iff : (t : Bool) → (not t ≡ true) ↔ (t ≡ false)
not_iff t = (not-true t, λ e. rw e)

pub none-iff {ℓ} : {P : Type ℓ} (t : Bool) → (t ≡ true) ↔ P → (not t ≡ true) ↔ (¬ P)
none-iff t h = (λ e p. not-both t e (h.1 p), λ n. rw (fails t (λ e. n (h.0 e))))

pub and-iff {ℓ κ} : {P : Type ℓ} {Q : Type κ} (a b : Bool) → (a ≡ true) ↔ P → (b ≡ true) ↔ Q → (a && b ≡ true) ↔ (P × Q)
and-iff a b h k = Iff.trans (and-eq-true_iff a b) (Iff.and h k)

-- Where the first test fails, the second is passed.
pub or-iff {ℓ} : {P : Type ℓ} (a b : Bool) → (b ≡ true) ↔ P → (a || b ≡ true) ↔ (a ≡ false → P)
or-iff true b k = (λ _ e. absurd (true≢false e), λ _. refl)
or-iff false b k = (λ e _. k.0 e, λ f. k.1 (f refl))

pub cond-iff {ℓ κ μ} : {S : Type ℓ} {P : Type κ} {Q : Type μ} (t a b : Bool) → (t ≡ true) ↔ S → (a ≡ true) ↔ P → (b ≡ true) ↔ Q → (cond t a b ≡ true) ↔ ((S → P) × (¬ S → Q))
cond-iff true a b s h k = (λ e. (λ _. h.0 e, λ n. absurd (n (s.0 refl))), λ f. h.1 (f.0 (s.0 refl)))
cond-iff false a b s h k = (λ e. (λ x. absurd (false≢true (s.1 x)), λ _. k.0 e), λ f. k.1 (f.1 (λ x. false≢true (s.1 x))))
