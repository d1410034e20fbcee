-- Bytes, and numbers of 16 and 32 bits in a run of bytes, low byte first: the scope paper's first paragraph.
-- Interface: IsBytes, byte_at, u16_at, u32_at, u16_bytes, u32_bytes.
-- Assumes nothing.
use Rattle.std.specs.Prelude.{ℕ, ◌+◌, ◌*◌, ◌<◌, ◌/◌, ◌%◌, ◌^◌, List, [], ◌∷◌, get_or}

-- The byte at offset i; 0 past the end.
abbrev pub byte_at : List ℕ → ℕ → ℕ
byte_at s i = get_or s i 0

-- Each element is a byte: what the type of a slice of bytes says.
abbrev pub IsBytes : List ℕ → Type 0
IsBytes s = (i : ℕ) → byte_at s i < 2 ^ 8

abbrev pub u16_at : List ℕ → ℕ → ℕ
u16_at s i = byte_at s i + 2 ^ 8 * byte_at s (i + 1)

abbrev pub u32_at : List ℕ → ℕ → ℕ
u32_at s i = u16_at s i + 2 ^ 16 * u16_at s (i + 2)

-- The bytes of a number's low 16 bits, and of its low 32 bits.
abbrev pub u16_bytes : ℕ → List ℕ
u16_bytes n = n % 2 ^ 8 ∷ n / 2 ^ 8 % 2 ^ 8 ∷ []

abbrev pub u32_bytes : ℕ → List ℕ
u32_bytes n = n % 2 ^ 8 ∷ n / 2 ^ 8 % 2 ^ 8 ∷ n / 2 ^ 16 % 2 ^ 8 ∷ n / 2 ^ 24 % 2 ^ 8 ∷ []
