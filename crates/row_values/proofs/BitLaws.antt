-- Bytes 0 and 1 as values, and the gates over them.
-- Assumes nothing.
use Prim.Native.Nat.{ℕ, zero, suc, ◌≤◌}
use mathlib.Core.Path.{◌≡◌, refl, ap, ◌∙◌}
use mathlib.Core.Bool.{Bool, true, false}
use mathlib.Core.List.{List, [], ◌∷◌}
use native.Mathlib.Omega.{arith}
use lib.ListN.{set, get_or-map}
use lib.Seq.{sets}
use Rattle.memory.specs.Fields.{byte_at}
use Rattle.netlist.specs.Simulation.{bool_logic, value_at}
use Rattle.row_values.specs.Values.{IsBinary, bit, truth_at, bit_byte, bit_bytes}

-- ---- values and bytes

pub byte-bit : (x : ℕ) → x ≤ 1 → bit_byte (bit x) ≡ x
byte-bit zero h = refl
byte-bit (suc zero) h = refl
byte-bit (suc (suc x)) h = absurd (omega arith)

pub bit-byte : (b : Bool) → bit (bit_byte b) ≡ b
bit-byte true = refl
bit-byte false = refl

pub byte-most : (b : Bool) → bit_byte b ≤ 1
byte-most true = omega arith
byte-most false = omega arith

-- The byte of value i, and its value; past the end 0.
pub bytes-at : (bs : List Bool) (i : ℕ) → byte_at (bit_bytes bs) i ≡ bit_byte (value_at bool_logic bs i)
bytes-at bs i = get_or-map bit_byte bs i false

pub bits_at : (bs : List Bool) (i : ℕ) → truth_at (bit_bytes bs) i ≡ value_at bool_logic bs i
bits_at bs i = ap bit (bytes-at bs i) ∙ bit-byte (value_at bool_logic bs i)

-- ---- lists of bytes 0 and 1

pub binary-bytes : (bs : List Bool) → IsBinary (bit_bytes bs)
binary-bytes bs = record { each = λ i. rw (bytes-at bs i) (byte-most (value_at bool_logic bs i)) }

pub binary-set : (s : List ℕ) (i x : ℕ) → IsBinary s → x ≤ 1 → IsBinary (set s i x)
binary-set s i x b h = record { each = go s i b.each }
  where
    go : (s : List ℕ) (i : ℕ) → ((j : ℕ) → byte_at s j ≤ 1) → (j : ℕ) → byte_at (set s i x) j ≤ 1
    go [] i b j = b j
    go (y ∷ s) zero b zero = h
    go (y ∷ s) zero b (suc j) = b (suc j)
    go (y ∷ s) (suc i) b zero = b 0
    go (y ∷ s) (suc i) b (suc j) = go s i (λ k. b (suc k)) j

pub binary-sets : (s : List ℕ) (i : ℕ) (xs : List ℕ) → IsBinary s → IsBinary xs → IsBinary (sets s i xs)
binary-sets s i [] b h = b
binary-sets s i (x ∷ xs) b h = binary-sets (set s i x) (suc i) xs (binary-set s i x b (h.each 0)) (record { each = λ k. h.each (suc k) })
