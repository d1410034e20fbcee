-- Readings that give something: what a test says of what is given, and what one reading and then another give.
-- Assumes nothing.
use Prim.Native.Nat.{ℕ}
use mathlib.Core.Path.{◌≡◌, refl, ap}
use mathlib.Core.Bool.{Bool, true, false, cond}
use mathlib.Core.List.{List, [], ◌∷◌}
use mathlib.Core.Option.{Option, none, some, some-injective, none-ne-some}
use Rattle.memory.proofs.TestLaws.{cond-case}
use Rattle.aiger.specs.AigerReading.{Reading, ◌>>=◌, byte}

pub none_is {ℓ} : {A : Type 0} {P : Type ℓ} (x : A) → none ≡ some x → P
none_is {A} x h = absurd (none-ne-some x h)

-- What is given is x, and s is left.
abbrev pub Gives : {A : Type 0} → Option (A × List ℕ) → A → List ℕ → Type 0
Gives o x s = o ≡ some (x, s)

pub given-once : {A : Type 0} (x y : A) (s t : List ℕ) → Gives (some (x, s)) y t → (x ≡ y) × (s ≡ t)
given-once {A} x y s t h =
    let p : ◌≡◌ {A = A × List ℕ} (x, s) (y, t) = some-injective _ _ h in
    (ap (λ q. q.0) p, ap (λ q. q.1) p)

pub byte-is : (t : List ℕ) (b : ℕ) (s : List ℕ) → Gives (byte t) b s → t ≡ b ∷ s
byte-is [] b s h = none_is (b, s) h
byte-is (c ∷ t) b s h = let q = given-once c b t s h in rw (q.0, q.1)

-- ---- tests

pub cond-some : {A : Type 0} (c : Bool) (o : Option A) (x : A) → cond c o none ≡ some x → (c ≡ true) × (o ≡ some x)
cond-some true o x h = (refl, h)
cond-some false o x h = none_is x h

-- What Q says of the outcome, it says of the one that the test chose.
pub cond-holds {ℓ κ μ} : {A : Type ℓ} {P : Type μ} (Q : A → Type κ) (c : Bool) (x y : A) → Q (cond c x y) → (c ≡ true → Q x → P) → (c ≡ false → Q y → P) → P
cond-holds {P} Q c x y h f g = cond-case (λ z. Q z → P) c x y f g h

-- ---- one reading and then another

module _ {A B : Type 0} (m : Reading A) (f : A → Reading B) (t : List ℕ) where
  abbrev next : Option (A × List ℕ) → Option (B × List ℕ)
  next none = none
  next (some q) = f q.0 q.1

  pub then-of : (x : A) (s : List ℕ) → Gives (m t) x s → (m >>= f) t ≡ f x s
  then-of x s e = ap next e

  pub then_is {ℓ} : {P : Type ℓ} (y : B) (r : List ℕ) → Gives ((m >>= f) t) y r → ((x : A) (s : List ℕ) → Gives (m t) x s → Gives (f x s) y r → P) → P
  then_is {P} y r h k = go (m t) refl h
    where
      go : (o : Option (A × List ℕ)) → m t ≡ o → Gives (next o) y r → P
      go none e h = none_is (y, r) h
      go (some q) e h = k q.0 q.1 e h
