-- Tests, tables and searches over a run of numbers, and counts.
-- Interface: all_below, all_of, join_below, tabulate, first_from, count_if, Among.
-- Assumes nothing.
use Rattle.std.specs.Prelude.{ℕ, zero, suc, ◌+◌, Bool, true, false, cond, ◌&&◌, List, [], ◌∷◌, ◌++◌}

-- f holds of each number below n.
abbrev pub all_below : ℕ → (ℕ → Bool) → Bool
all_below zero f = true
all_below (suc n) f = all_below n f && f n

-- f holds of each element.
abbrev pub all_of {ℓ} : {A : Type ℓ} → (A → Bool) → List A → Bool
all_of f [] = true
all_of f (x ∷ xs) = f x && all_of f xs

-- The lists f 0, f 1, .., f (n - 1), joined.
abbrev pub join_below {ℓ} : {A : Type ℓ} → ℕ → (ℕ → List A) → List A
join_below zero f = []
join_below (suc n) f = join_below n f ++ f n

-- f 0, f 1, .., f (n - 1).
abbrev pub tabulate {ℓ} : {A : Type ℓ} → ℕ → (ℕ → A) → List A
tabulate n f = join_below n (λ i. f i ∷ [])

-- The first of the n numbers i, i + 1, .. of which f holds; i + n if it holds of none.
abbrev pub first_from : ℕ → ℕ → (ℕ → Bool) → ℕ
first_from i zero f = i
first_from i (suc n) f = elim (f i) [ true ↦ i | false ↦ first_from (suc i) n f ]

-- Of how many elements f holds.
abbrev pub count_if {ℓ} : {A : Type ℓ} → (A → Bool) → List A → ℕ
count_if f [] = zero
count_if f (x ∷ xs) = cond (f x) (suc zero) zero + count_if f xs

-- i is in the list.
pub data Among (i : ℕ) : List ℕ → Type 0 where
  here : {js : List ℕ} → Among i (i ∷ js)
  there : {j : ℕ} {js : List ℕ} → Among i js → Among i (j ∷ js)
