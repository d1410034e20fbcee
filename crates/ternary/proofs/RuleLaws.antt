-- The laws of the three-valued rules: what a rule knows holds of the concrete values, and codes stand for values. All that stands above goes by these.
-- Assumes nothing.
use Prim.Native.Nat.{◌<◌}
use mathlib.Core.Path.{◌≡◌, refl, sym, ap, ◌∙◌}
use mathlib.Core.Bool.{Bool, true, false, cond, not, ◌&&◌, false≢true}
use native.Mathlib.Omega.{arith}
use borrow.Author.Tests.{eqb-true, eq-eqb}
use Rattle.ternary.specs.Ternary.{Ternary, lo, hi, X, not3, and3, xor3, mux3, code_of, value_of, equal3}

-- The value b is among those that q stands for.
pub data Covers : Ternary → Bool → Type 0 where
  is-lo : Covers lo false
  is-hi : Covers hi true
  any : {b : Bool} → Covers X b

-- The same as a test.
abbrev covered : Ternary → Bool → Bool
covered lo b = not b
covered hi b = b
covered X b = true

covers-by : (q : Ternary) (b : Bool) → covered q b ≡ true → Covers q b
covers-by lo false h = is-lo
covers-by lo true h = absurd (false≢true h)
covers-by hi false h = absurd (false≢true h)
covers-by hi true h = is-hi
covers-by X b h = any

pub not3-covers : {q : Ternary} {b : Bool} → Covers q b → Covers (not3 q) (not b)
unfolding not3
not3-covers is-lo = is-hi
not3-covers is-hi = is-lo
not3-covers any = any

and3-unknown : (b : Bool) {q : Ternary} {b' : Bool} → Covers q b' → Covers (and3 X q) (b && b')
unfolding and3
and3-unknown true is-lo = covers-by (and3 X lo) false refl
and3-unknown false is-lo = covers-by (and3 X lo) false refl
and3-unknown b is-hi = any
and3-unknown b any = any

pub and3-covers : {q : Ternary} {b : Bool} {q' : Ternary} {b' : Bool} → Covers q b → Covers q' b' → Covers (and3 q q') (b && b')
unfolding and3
and3-covers is-lo k = is-lo
and3-covers is-hi k = k
and3-covers (any {b}) k = and3-unknown b k

-- The exclusive or of concrete values: the second, inverted if the first is 1.
pub xor3-covers : {q : Ternary} {b : Bool} {q' : Ternary} {b' : Bool} → Covers q b → Covers q' b' → Covers (xor3 q q') (cond b (not b') b')
unfolding xor3
xor3-covers is-lo k = k
xor3-covers is-hi k = not3-covers k
xor3-covers any k = any

mux3-unknown : (b : Bool) {q : Ternary} {b' : Bool} {q' : Ternary} {b'' : Bool} → Covers q b' → Covers q' b'' → Covers (mux3 X q q') (cond b b' b'')
unfolding mux3
mux3-unknown true is-lo is-lo = covers-by (mux3 X lo lo) false refl
mux3-unknown false is-lo is-lo = covers-by (mux3 X lo lo) false refl
mux3-unknown b is-lo is-hi = any
mux3-unknown b is-lo any = any
mux3-unknown b is-hi is-lo = any
mux3-unknown true is-hi is-hi = covers-by (mux3 X hi hi) true refl
mux3-unknown false is-hi is-hi = covers-by (mux3 X hi hi) true refl
mux3-unknown b is-hi any = any
mux3-unknown b any is-lo = any
mux3-unknown b any is-hi = any
mux3-unknown b any any = any

pub mux3-covers : {q : Ternary} {b : Bool} {q' : Ternary} {b' : Bool} {q'' : Ternary} {b'' : Bool} → Covers q b → Covers q' b' → Covers q'' b'' → Covers (mux3 q q' q'') (cond b b' b'')
unfolding mux3
mux3-covers is-lo k l = l
mux3-covers is-hi k l = k
mux3-covers (any {b}) k l = mux3-unknown b k l

pub value-of-code : (a : Ternary) → value_of (code_of a) ≡ a
value-of-code lo = refl
value-of-code hi = refl
value-of-code X = refl

pub code_below : (a : Ternary) → code_of a < 3
code_below lo = omega arith
code_below hi = omega arith
code_below X = omega arith

pub equal3-true : (a b : Ternary) → equal3 a b ≡ true → a ≡ b
equal3-true a b h = sym (value-of-code a) ∙ ap value_of (eqb-true (code_of a) (code_of b) h) ∙ value-of-code b

pub equal3-same : (a : Ternary) → equal3 a a ≡ true
equal3-same a = eq-eqb (code_of a) (code_of a) refl
