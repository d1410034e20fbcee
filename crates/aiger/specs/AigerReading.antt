-- ASCII AIGER as a reading, which contracts cite: what stands at the front of a text, and the rest; none if something else stands there.
-- Interface: Reading, number, line, lines, header, read_lines, read_aiger, ReadsWriting.
-- Assumes nothing.
use Rattle.std.specs.Prelude.{ℕ, zero, suc, ◌+◌, ◌-◌, ◌*◌, ◌≡◌, ◌↔◌, Bool, true, false, cond, ◌&&◌, List, [], ◌∷◌, ◌++◌, length, get_or, drop, eqb, leb}
use Rattle.std.proofs.Math.Option.{Option, none, some}
use Rattle.aiger.specs.AigerText.{Header, Aiger, line_count, aiger_right, largest_number, opening, IsTextOf}

abbrev pub Reading : Type 0 → Type 0
Reading A = List ℕ → Option (A × List ℕ)

infixl 20 ◌>>=◌
abbrev pub ◌>>=◌ : {A B : Type 0} → Reading A → (A → Reading B) → Reading B
◌>>=◌ m f = λ t. elim (m t) [ none ↦ none | some r ↦ f r.0 r.1 ]

abbrev pub done : {A : Type 0} → A → Reading A
done x = λ t. some (x, t)

abbrev pub nothing : {A : Type 0} → Reading A
nothing = λ t. none

abbrev pub byte : Reading ℕ
byte [] = none
byte (b ∷ t) = some (b, t)

abbrev pub is_digit : ℕ → Bool
is_digit b = leb 48 b && leb b 57

-- The digits of a number go on, v the number so far.
unfoldable pub more_digits : ℕ → Reading ℕ
more_digits v [] = some (v, [])
more_digits v (b ∷ t) = cond (is_digit b) (let w = 10 * v + (b - 48) in cond (leb w largest_number) (more_digits w t) none) (some (v, b ∷ t))

-- A number that begins with the digit 0 is 0: a digit after it is no space and no line feed.
unfoldable pub number : Reading ℕ
number [] = none
number (b ∷ t) = cond (eqb b 48) (some (0, t)) (cond (is_digit b) (more_digits (b - 48) t) none)

-- A line of 1 to k numbers; the next n lines, of 1 to 3 numbers each.
unfoldable pub line : ℕ → Reading (List ℕ)
line zero = nothing
line (suc k) = number >>= λ n. byte >>= λ b. cond (eqb b 10) (done (n ∷ [])) (cond (eqb b 32) (line k >>= λ ns. done (n ∷ ns)) nothing)

unfoldable pub lines : ℕ → Reading (List (List ℕ))
lines zero = done []
lines (suc n) = lines n >>= λ ls. line 3 >>= λ l. done (ls ++ (l ∷ []))

abbrev pub starts_with : List ℕ → List ℕ → Bool
starts_with [] t = true
starts_with (b ∷ bs) [] = false
starts_with (b ∷ bs) (c ∷ t) = eqb b c && starts_with bs t

-- Five numbers, and no other count.
abbrev pub header_of : List ℕ → Reading Header
header_of ns t = cond (eqb (length ns) 5) (some (record { maximum = get_or ns 0 0; inputs = get_or ns 1 0; latches = get_or ns 2 0; outputs = get_or ns 3 0; gates = get_or ns 4 0 }, t)) none

unfoldable pub header : Reading Header
header t = cond (starts_with opening t) ((line 5 >>= header_of) (drop 4 t)) none

-- The header and the lines that it counts, whatever they say.
unfoldable pub read_lines : Reading Aiger
read_lines = header >>= λ h. lines (line_count h) >>= λ ls. done (record { header = h; lines = ls })

-- What the text says, if that is right; none for other text.
unfoldable pub read_aiger : List ℕ → Option Aiger
read_aiger text = elim (read_lines text) [ none ↦ none | some r ↦ cond (aiger_right r.0) (some r.0) none ]

-- A text is read as a exactly if it is a text of a. So a text says one thing at most.
abbrev pub ReadsWriting : Type 0
ReadsWriting = (text : List ℕ) (a : Aiger) → (read_aiger text ≡ some a) ↔ IsTextOf text a
