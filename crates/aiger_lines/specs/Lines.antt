-- The readers' answers as readings of the text, what its counted lines say, right or not, and where each line begins.
-- Interface: header_in, section_in, numbers_in, line_read, headed_read, FewHeader, aiger_in, lines_stand, LineStart, LineThere, LineHere, Counted.
-- Assumes nothing.
use Rattle.std.specs.Prelude.{ℕ, ◌+◌, ◌<◌, ◌≤◌, ◌≡◌, Bool, true, false, cond, List, [], ◌∷◌, length, get_or, take, drop, eqb, Some, None}
use Rattle.std.specs.Prelude as code
use Rattle.std.proofs.Math.Option.{Option, none, some}
use Rattle.aiger.specs.AigerText.{Header, Aiger, Section, input_line, latch_line, output_line, gate_line, line_count, line_at, number_at, lines_right, largest_number}
use Rattle.aiger.specs.AigerReading.{Reading, ◌>>=◌, done, nothing, byte, number, lines, header, read_lines}
use Rattle.aiger_lines.specs.declared.Field.{Field}
use Rattle.aiger_lines.specs.declared.Field.TheVariants as fields
use Rattle.aiger_lines.specs.declared.Line as l
use Rattle.aiger_lines.specs.declared.Header as h
use Rattle.aiger_lines.specs.declared.Section as s
use Rattle.aiger_lines.specs.declared.Section.TheVariants.{Input, Latch, Output, Gate}

abbrev pub header_in : h.Header → Header
header_in x = record { maximum = x.maximum; inputs = x.inputs; latches = x.latches; outputs = x.outputs; gates = x.gates }

abbrev pub section_in : s.Section → Section
section_in Input = input_line
section_in Latch = latch_line
section_in Output = output_line
section_in Gate = gate_line

-- The number, and the text after it.
abbrev pub number_read : List ℕ → code.Option (ℕ × ℕ) → Option (ℕ × List ℕ)
number_read text (Some n) = some (n.0, drop n.1 text)
number_read text None = none

-- It ends in the text, or where that ends.
abbrev pub NumberInside : List ℕ → code.Option (ℕ × ℕ) → Type 0
NumberInside text (Some n) = n.1 ≤ length text
NumberInside text None = Unit {0}

-- A number, and whether it is its line's last.
abbrev pub field : Reading (ℕ × Bool)
field = number >>= λ n. byte >>= λ b. cond (eqb b 10) (done (n, true)) (cond (eqb b 32) (done (n, false)) nothing)

abbrev pub field_read : List ℕ → Field → Option ((ℕ × Bool) × List ℕ)
field_read text (fields.Next value at) = some ((value, false), drop at text)
field_read text (fields.Last value at) = some ((value, true), drop at text)
field_read text fields.Other = none

abbrev pub FieldInside : List ℕ → Field → Type 0
FieldInside text (fields.Next value at) = at ≤ length text
FieldInside text (fields.Last value at) = at ≤ length text
FieldInside text fields.Other = Unit {0}

-- The numbers of a line, and the text after it.
abbrev pub numbers_in : l.Line → List ℕ
numbers_in x = take x.count (x.first ∷ x.second ∷ x.third ∷ [])

abbrev pub line_read : List ℕ → code.Option l.Line → Option (List ℕ × List ℕ)
line_read text (Some x) = some (numbers_in x, drop x.next text)
line_read text None = none

-- The numbers that a line has not are 0, and the next line begins in the text, or where it ends.
pub record Padded (text : List ℕ) (x : l.Line) : Type 0 where
  pub first : x.first ≡ get_or (numbers_in x) 0 0
  pub second : x.second ≡ get_or (numbers_in x) 1 0
  pub third : x.third ≡ get_or (numbers_in x) 2 0
  pub count : x.count ≡ length (numbers_in x)
  pub inside : x.next ≤ length text

-- The header, and the text after it.
abbrev pub headed_read : List ℕ → code.Option (h.Header × ℕ) → Option (Header × List ℕ)
headed_read text (Some x) = some (header_in x.0, drop x.1 text)
headed_read text None = none

-- No number of the header is above the largest: so sums of them fit a number of 64 bits.
pub record FewHeader (x : h.Header) : Type 0 where
  pub maximum : x.maximum ≤ largest_number
  pub inputs : x.inputs ≤ largest_number
  pub latches : x.latches ≤ largest_number
  pub outputs : x.outputs ≤ largest_number
  pub gates : x.gates ≤ largest_number

-- The same of a header that was read, whose lines begin in the text, or where it ends.
abbrev pub FewHeaded : List ℕ → code.Option (h.Header × ℕ) → Type 0
FewHeaded text (Some x) = FewHeader x.0 × (x.1 ≤ length text)
FewHeaded text None = Unit {0}

-- ---- the counted lines

-- What they say, whether right or not; nothing if they are not there.
unfoldable pub aiger_in : List ℕ → Aiger
aiger_in text = elim (read_lines text) [ none ↦ record { header = record { maximum = 0; inputs = 0; latches = 0; outputs = 0; gates = 0 }; lines = [] } | some r ↦ r.0 ]

-- They are there, with an output, and each is right by itself.
unfoldable pub lines_stand : List ℕ → Bool
lines_stand text = elim (read_lines text) [ none ↦ false | some r ↦ lines_right r.0 ]

-- The text after the header and k lines.
unfoldable pub text_after : List ℕ → ℕ → Option (List ℕ)
text_after text k = elim ((header >>= λ x. lines k) text) [ none ↦ none | some r ↦ some r.1 ]

-- Line k begins at `at`.
pub record LineStart (text : List ℕ) (k at : ℕ) : Type 0 where
  pub inside : at ≤ length text
  pub rest : text_after text k ≡ some (drop at text)

-- The lines stand, k is one of them, and it begins at `at`.
pub record LineThere (text : List ℕ) (k at : ℕ) : Type 0 where
  pub stand : lines_stand text ≡ true
  pub among : k < line_count (aiger_in text).header
  pub start : LineStart text k at

-- x is line k of the text.
pub record LineHere (text : List ℕ) (k : ℕ) (x : l.Line) : Type 0 where
  pub first : x.first ≡ number_at (aiger_in text) k 0
  pub second : x.second ≡ number_at (aiger_in text) k 1
  pub third : x.third ≡ number_at (aiger_in text) k 2
  pub count : x.count ≡ length (line_at (aiger_in text) k)
  pub next : LineStart text (k + 1) x.next

-- The lines stand, x is their header, and the first begins at `from`.
pub record Counted (text : List ℕ) (x : h.Header) (from : ℕ) : Type 0 where
  pub stand : lines_stand text ≡ true
  pub header : header_in x ≡ (aiger_in text).header
  pub few : FewHeader x
  pub start : LineStart text 0 from
