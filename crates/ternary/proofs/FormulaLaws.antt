-- A formula over two codes, capped at 2, agrees with a rule: one test that computes over all pairs, for AND and for the complement.
-- Assumes nothing.
use Prim.Native.Nat.{ℕ, ◌*◌, ◌<◌, ◌≤◌, ◌^◌}
use mathlib.Core.Path.{◌≡◌, refl}
use mathlib.Core.Bool.{Bool, true, cond}
use native.Mathlib.Omega.{arith}
use native.Mathlib.Nat.{mul-le-mul}
use borrow.Author.Tests.{eqb-true, lt-ltb, le-ltb}
use lib.Bits.{bit_xor}
use lib.Dec.{eqb, ltb}
use Rattle.memory.specs.Lists.{all_below}
use Rattle.memory.proofs.ListLaws.{all_below-at}
use Rattle.ternary.specs.Ternary.{Ternary, not3, and3, xor3, code_of, value_of}

-- The number, at most 2.
unfoldable pub capped : ℕ → ℕ
capped n = cond (ltb n 2) n 2

-- Below 2 it is the number, from 2 on it is 2.
pub below-cap : {n c : ℕ} → capped n ≡ c → n < 2 → n ≡ c
unfolding capped
below-cap {n} h l = rw (lt-ltb n 2 l) at h

pub from-cap : {n c : ℕ} → capped n ≡ c → 2 ≤ n → 2 ≡ c
unfolding capped
from-cap {n} h l = rw (le-ltb n 2 l) at h

-- For the codes a below n and b below 3 the formula, capped, is the code of what the rule says.
abbrev agrees_capped : ℕ → (Ternary → Ternary → Ternary) → (ℕ → ℕ → ℕ) → Bool
agrees_capped n rule formula = all_below n (λ a. all_below 3 (λ b. eqb (capped (formula a b)) (code_of (rule (value_of a) (value_of b)))))

agrees-capped : (n : ℕ) (rule : Ternary → Ternary → Ternary) (formula : ℕ → ℕ → ℕ) → agrees_capped n rule formula ≡ true → (a b : ℕ) → a < n → b < 3
    → capped (formula a b) ≡ code_of (rule (value_of a) (value_of b))
agrees-capped n rule formula h a b k l =
    eqb-true (capped (formula a b)) (code_of (rule (value_of a) (value_of b)))
    (all_below-at 3 (λ j. eqb (capped (formula a j)) (code_of (rule (value_of a) (value_of j))))
    (all_below-at n (λ i. all_below 3 (λ j. eqb (capped (formula i j)) (code_of (rule (value_of i) (value_of j))))) h a k) b l)

-- AND is the product.
pub product-agrees : (a b : ℕ) → a < 3 → b < 3 → capped (a * b) ≡ code_of (and3 (value_of a) (value_of b))
unfolding capped and3
product-agrees = agrees-capped 3 and3 ◌*◌ refl

pub product_small : (a b : ℕ) → a < 3 → b < 3 → a * b < 2 ^ 8
product_small a b k l = let ka : a ≤ 2 = omega arith in let lb : b ≤ 2 = omega arith in omega (arith, mul-le-mul ka lb)

-- The complement of a code, if the bit is 1, is the XOR of the two numbers.
pub complement-agrees : (i v : ℕ) → i < 2 → v < 3 → capped (bit_xor v i) ≡ code_of (xor3 (value_of i) (value_of v))
unfolding capped not3 xor3
complement-agrees = agrees-capped 2 xor3 (λ i v. bit_xor v i) refl
