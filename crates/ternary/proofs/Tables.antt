-- A table of codes agrees with a rule: one test that computes over the whole table, and from it the rule at each pair or triple of codes.
-- Assumes nothing.
use Prim.Native.Nat.{ℕ, zero, suc, ◌+◌, ◌*◌, ◌/◌, ◌%◌, ◌<◌}
use mathlib.Core.Path.{◌≡◌}
use mathlib.Core.Bool.{Bool, true}
use mathlib.Core.List.{List, [], ◌∷◌}
use native.Mathlib.Omega.{arith}
use borrow.Author.Tests.{eqb-true}
use lib.Dec.{eqb}
use lib.ListN.{get_or}
use Rattle.memory.specs.Lists.{all_below}
use Rattle.memory.proofs.ListLaws.{all_below-at}
use Rattle.ternary.specs.Ternary.{Ternary, code_of, value_of}

-- The n entries of a table, as a tuple and as a list: `_` stands for a tuple where the goal shows the list.
abbrev pub Entries : ℕ → Type 0
Entries zero = Unit
Entries (suc n) = ℕ × Entries n

abbrev pub list_of : (n : ℕ) → Entries n → List ℕ
list_of zero t = []
list_of (suc n) t = t.0 ∷ list_of n t.1

-- Each entry is the code of what the rule says of its index.
abbrev pub agrees : (n : ℕ) → (ℕ → Ternary) → Entries n → Bool
agrees n rule t = all_below n (λ i. eqb (get_or (list_of n t) i 0) (code_of (rule i)))

agrees_at : (n : ℕ) (rule : ℕ → Ternary) (t : Entries n) → agrees n rule t ≡ true → (i : ℕ) → i < n → get_or (list_of n t) i 0 ≡ code_of (rule i)
agrees_at n rule t h i l = eqb-true (get_or (list_of n t) i 0) (code_of (rule i)) (all_below-at n (λ j. eqb (get_or (list_of n t) j 0) (code_of (rule j))) h i l)

-- A rule of two values at the index 3 * a + b, and one of three at 9 * s + 3 * b + c.
abbrev pub at_pair : (Ternary → Ternary → Ternary) → ℕ → Ternary
at_pair rule i = rule (value_of (i / 3)) (value_of (i % 3))

abbrev pub at_triple : (Ternary → Ternary → Ternary → Ternary) → ℕ → Ternary
at_triple rule i = rule (value_of (i / 9)) (value_of (i / 3 % 3)) (value_of (i % 3))

pub agrees-pair : (rule : Ternary → Ternary → Ternary) (t : Entries 9) → agrees 9 (at_pair rule) t ≡ true → (a b : ℕ) → a < 3 → b < 3
    → get_or (list_of 9 t) (3 * a + b) 0 ≡ code_of (rule (value_of a) (value_of b))
agrees-pair rule t h a b k l =
    let e : (3 * a + b) / 3 ≡ a = omega arith in
    let f : (3 * a + b) % 3 ≡ b = omega arith in
    rw (e, f) at (agrees_at 9 (at_pair rule) t h (3 * a + b) (omega arith))

pub agrees-triple : (rule : Ternary → Ternary → Ternary → Ternary) (t : Entries 27) → agrees 27 (at_triple rule) t ≡ true → (s b c : ℕ) → s < 3 → b < 3 → c < 3
    → get_or (list_of 27 t) (9 * s + 3 * b + c) 0 ≡ code_of (rule (value_of s) (value_of b) (value_of c))
agrees-triple rule t h s b c k l m =
    let e : (9 * s + 3 * b + c) / 9 ≡ s = omega arith in
    let f : (9 * s + 3 * b + c) / 3 % 3 ≡ b = omega arith in
    let g : (9 * s + 3 * b + c) % 3 ≡ c = omega arith in
    rw (e, f, g) at (agrees_at 27 (at_triple rule) t h (9 * s + 3 * b + c) (omega arith))
