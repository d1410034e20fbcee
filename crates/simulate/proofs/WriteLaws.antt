-- Bytes written into a list: one byte more, bytes copied, and the whole list.
-- Assumes nothing.
use Prim.Native.Nat.{ℕ, ◌+◌, ◌<◌, ◌≤◌}
use mathlib.Core.Path.{◌≡◌, refl, sym, ap, ◌∙◌}
use mathlib.Core.List.{List, [], ◌∷◌, ◌++◌}
use native.Mathlib.Omega.{arith}
use native.Mathlib.Numerals.{add-one}
use lib.ListN.{length, set, take, drop, length-drop}
use lib.Seq.{sets, sets-eq, get_or-drop, length-take-le, take-suc}
use Rattle.memory.specs.Fields.{byte_at}
use Rattle.memory.proofs.BufferLaws.{sets-join}

-- One byte more at the end.
pub put_last : (w v xs : List ℕ) (o p x : ℕ) → w ≡ sets v o xs → p ≡ o + length xs → set w p x ≡ sets v o (xs ++ (x ∷ []))
put_last w v xs o p x e q = rw (e, q) (sets-join xs (x ∷ []) v o)

-- The next byte of a list that is written from its front on.
pub put_next : (w v xs : List ℕ) (o i p x : ℕ) → w ≡ sets v o (take i xs) → i < length xs → p ≡ o + i → x ≡ byte_at xs i → set w p x ≡ sets v o (take (i + 1) xs)
put_next w v xs o i p x e h q z =
    put_last w v (take i xs) o p x e (omega (arith, length-take-le i xs (omega arith)))
    ∙ ap (λ (l : List ℕ). sets v o l) (ap (λ (y : ℕ). take i xs ++ (y ∷ [])) z ∙ sym (ap (λ (k : ℕ). take k xs) (add-one i) ∙ take-suc xs i 0 h))

-- ---- bytes copied from o on in w

module _ (w r₀ r : List ℕ) (o to i : ℕ) (er : r ≡ sets r₀ to (take i (drop o w))) (m : ℕ) (fits : o + m ≤ length w) where
  pub copy_more : i < m → set r (to + i) (byte_at w (o + i)) ≡ sets r₀ to (take (i + 1) (drop o w))
  copy_more less = put_next r r₀ (drop o w) to i (to + i) (byte_at w (o + i)) er (omega (arith, length-drop o w)) refl (sym (get_or-drop o w i 0))

-- Written from the front on, and nothing else.
pub write-front : (v xs : List ℕ) → length xs ≤ length v → sets v 0 xs ≡ xs ++ drop (length xs) v
write-front v xs h =
    let e : 0 + length xs ≡ length xs = omega arith in
    sets-eq xs v 0 (omega arith) ∙ ap (λ (k : ℕ). xs ++ drop k v) e
