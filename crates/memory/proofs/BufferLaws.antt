-- The laws of bytes written one run after another, and of bytes cleared from an offset on.
-- Assumes nothing.
use Prim.Native.Nat.{ℕ, suc, ◌+◌, ◌-◌, ◌<◌, ◌≤◌}
use mathlib.Core.Path.{◌≡◌, refl, sym, ap, ◌∙◌}
use mathlib.Core.List.{List, [], ◌∷◌, ◌++◌, append_assoc}
use native.Mathlib.Omega.{arith}
use native.Mathlib.Nat.{add-zero}
use native.Mathlib.Numerals.{add-one}
use lib.ListN.{length, set, take, drop, replicate, get_or, length-append, length-take, length-replicate, replicate-append-replicate}
use lib.Seq.{sets, set_at, drop-cons}

pub sets-join : (vs ws l : List ℕ) (i : ℕ) → sets (sets l i vs) (i + length vs) ws ≡ sets l i (vs ++ ws)
sets-join [] ws l i = rw (add-zero i) refl
sets-join (v ∷ vs) ws l i = let e : i + suc (length vs) ≡ suc i + length vs = omega arith in rw e (sets-join vs ws (set l i v) (suc i))

-- The bytes from a on and before i are 0.
abbrev pub cleared_to : List ℕ → ℕ → ℕ → List ℕ
cleared_to l a i = (take a l ++ replicate (i - a) 0) ++ drop i l

zeros-more : (k : ℕ) → replicate {A = ℕ} (k + 1) 0 ≡ replicate k 0 ++ 0 ∷ []
zeros-more k = sym (replicate-append-replicate k 1 0)

pub cleared_more : (l : List ℕ) (a i : ℕ) → a ≤ i → i < length l → set (cleared_to l a i) i 0 ≡ cleared_to l a (i + 1)
cleared_more l a i h k =
    let p = take a l ++ replicate (i - a) 0 in
    let n : length p ≡ i = simp (length-append, length-take, length-replicate) (omega arith) in
    let e : i + 1 - a ≡ i - a + 1 = omega arith in
    ap (λ z. set (p ++ z) i 0) (drop-cons l i 0 k) ∙ set_at p (get_or l i 0) (drop (suc i) l) 0 i n ∙ rw (e, zeros-more (i - a), add-one i) (simp append_assoc)
