-- The three values 0, 1 and X (unknown), and their rules: the scope paper, "Values over time"; that of MUX: the change requests, "unknown selector, equal data".
-- The rules stay shut: what stands above goes by the laws in `proofs/RuleLaws`, and opens a rule only to compute an example.
-- Assumes nothing.
use Rattle.std.specs.Prelude.{ℕ, zero, suc, Bool, cond, eqb, ltb}

pub data Ternary : Type 0 where
  lo hi X : Ternary

unfoldable pub not3 : Ternary → Ternary
not3 lo = hi
not3 hi = lo
not3 X = X

-- 0 if either is 0, 1 if both are 1, else X.
unfoldable pub and3 : Ternary → Ternary → Ternary
and3 lo b = lo
and3 hi b = b
and3 X lo = lo
and3 X hi = X
and3 X X = X

-- X if either is X.
unfoldable pub xor3 : Ternary → Ternary → Ternary
unfolding not3
xor3 lo b = b
xor3 hi b = not3 b
xor3 X b = X

-- X is coded 2.
abbrev pub code_of : Ternary → ℕ
code_of lo = 0
code_of hi = 1
code_of X = 2

-- The value of a code; out of range, above 2, it is X.
abbrev pub value_of : ℕ → Ternary
value_of zero = lo
value_of (suc zero) = hi
value_of (suc (suc n)) = X

abbrev pub equal3 : Ternary → Ternary → Bool
equal3 a b = eqb (code_of a) (code_of b)

abbrev pub is_known : Ternary → Bool
is_known a = ltb (code_of a) 2

-- The second if the first is 1, the third if it is 0; if it is X, what both agree on, else X.
unfoldable pub mux3 : Ternary → Ternary → Ternary → Ternary
mux3 lo b c = c
mux3 hi b c = b
mux3 X b c = cond (equal3 b c) b X
