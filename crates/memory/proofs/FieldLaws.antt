-- Lists of bytes. Numbers of 16 and 32 bits: what is written is read again, and what is read of bytes is written again.
-- Assumes nothing.
use Prim.Native.Nat.{ℕ, zero, suc, ◌+◌, ◌*◌, ◌<◌, ◌%◌, ◌/◌, ◌^◌}
use mathlib.Core.Path.{◌≡◌, refl, ap}
use mathlib.Core.List.{List, [], ◌∷◌, ◌++◌}
use native.Mathlib.Omega.{arith}
use lib.ListN.{replicate}
use Rattle.memory.specs.Lists.{join_below}
use Rattle.memory.specs.Fields.{IsBytes, byte_at, u16_at, u32_at, u16_bytes, u32_bytes}

-- ---- lists of bytes

pub bytes-cons : (n : ℕ) (s : List ℕ) → n < 2 ^ 8 → IsBytes s → IsBytes (n ∷ s)
bytes-cons n s h b zero = h
bytes-cons n s h b (suc i) = b i

pub bytes-append : (s t : List ℕ) → IsBytes s → IsBytes t → IsBytes (s ++ t)
bytes-append [] t b c = c
bytes-append (n ∷ s) t b c = bytes-cons n (s ++ t) (b 0) (bytes-append s t (λ i. b (suc i)) c)

pub bytes-join : (n : ℕ) (f : ℕ → List ℕ) → ((j : ℕ) → j < n → IsBytes (f j)) → IsBytes (join_below n f)
bytes-join zero f h = λ i. omega arith
bytes-join (suc n) f h = bytes-append (join_below n f) (f n) (bytes-join n f (λ j l. h j (omega arith))) (h n (omega arith))

pub zeros-at : (n i : ℕ) → byte_at (replicate n 0) i ≡ 0
zeros-at zero i = refl
zeros-at (suc n) zero = refl
zeros-at (suc n) (suc i) = zeros-at n i

pub bytes-zeros : (n : ℕ) → IsBytes (replicate n 0)
bytes-zeros n i = rw (zeros-at n i) (omega arith)

pub u16-is-bytes : (n : ℕ) → IsBytes (u16_bytes n)
u16-is-bytes n zero = omega arith
u16-is-bytes n (suc zero) = omega arith
u16-is-bytes n (suc (suc i)) = omega arith

pub u32-is-bytes : (n : ℕ) → IsBytes (u32_bytes n)
u32-is-bytes n zero = omega arith
u32-is-bytes n (suc zero) = omega arith
u32-is-bytes n (suc (suc zero)) = omega arith
u32-is-bytes n (suc (suc (suc zero))) = omega arith
u32-is-bytes n (suc (suc (suc (suc i)))) = omega arith

-- ---- numbers

-- A number of 32 bits by its bytes.
digits : (n : ℕ) → n < 2 ^ 32 → n % 2 ^ 8 + 2 ^ 8 * (n / 2 ^ 8 % 2 ^ 8) + 2 ^ 16 * (n / 2 ^ 16 % 2 ^ 8 + 2 ^ 8 * (n / 2 ^ 24 % 2 ^ 8)) ≡ n
digits n l =
    let t : n / 2 ^ 24 % 2 ^ 8 ≡ n / 2 ^ 24 = omega arith in
    let u : n / 2 ^ 16 ≡ n / 2 ^ 16 % 2 ^ 8 + 2 ^ 8 * (n / 2 ^ 24) = omega arith in
    let v : n / 2 ^ 8 ≡ n / 2 ^ 8 % 2 ^ 8 + 2 ^ 8 * (n / 2 ^ 16) = omega arith in
    omega arith

module _ (s : List ℕ) (o : ℕ) where
  -- An offset written in another way.
  same-offset : (d e : ℕ) → e ≡ o + d → byte_at s e ≡ byte_at s (o + d)
  same-offset d e q = ap (byte_at s) q

  pub u16-read : (n : ℕ) → n < 2 ^ 16 → byte_at s o ≡ byte_at (u16_bytes n) 0 → byte_at s (o + 1) ≡ byte_at (u16_bytes n) 1 → u16_at s o ≡ n
  u16-read n l p q = omega arith

  pub u32-read : (n : ℕ) → n < 2 ^ 32 → ((d : ℕ) → d < 4 → byte_at s (o + d) ≡ byte_at (u32_bytes n) d) → u32_at s o ≡ n
  u32-read n l h =
      omega (arith, digits n l, same-offset 0 o (omega arith), same-offset 3 (o + 2 + 1) (omega arith), h 0 (omega arith), h 1 (omega arith), h 2 (omega arith), h 3 (omega arith))

  module _ (b : IsBytes s) where
    pub u16-small : u16_at s o < 2 ^ 16
    u16-small = omega (arith, b o, b (o + 1))

    pub u32-small : u32_at s o < 2 ^ 32
    u32-small = omega (arith, b o, b (o + 1), b (o + 2), b (o + 2 + 1))

    pub u16-write : (byte_at (u16_bytes (u16_at s o)) 0 ≡ byte_at s o) × (byte_at (u16_bytes (u16_at s o)) 1 ≡ byte_at s (o + 1))
    u16-write = (omega (arith, b o), omega (arith, b o, b (o + 1)))

    pub u32-write : (d : ℕ) → d < 4 → byte_at (u32_bytes (u32_at s o)) d ≡ byte_at s (o + d)
    u32-write zero l = omega (arith, b o, same-offset 0 o (omega arith))
    u32-write (suc zero) l = omega (arith, b o, b (o + 1))
    u32-write (suc (suc zero)) l = omega (arith, b o, b (o + 1), b (o + 2))
    u32-write (suc (suc (suc zero))) l = omega (arith, b o, b (o + 1), b (o + 2), b (o + 2 + 1), same-offset 3 (o + 2 + 1) (omega arith))
    u32-write (suc (suc (suc (suc d)))) l = absurd (omega arith)
