-- ASCII AIGER as a writing: the change requests, "AIGER text in".
-- What a text says is a header and the numbers of each line that the header counts; the text is the writing of these, and then anything.
-- Interface: Header, Aiger, section_of, line_right, node_of, aiger_right, writing, IsTextOf.
-- Assumes nothing.
use Rattle.std.specs.Prelude.{ℕ, zero, suc, ◌+◌, ◌*◌, ◌/◌, ◌%◌, ◌≡◌, Bool, true, cond, not, ◌&&◌, ◌||◌, List, [], ◌∷◌, ◌++◌, length, get_or, eqb, ltb, leb}
use Rattle.memory.specs.Lists.{all_below, all_of, join_below, first_from}

-- M, I, L, O and A.
pub record Header : Type 0 where
  pub maximum : ℕ
  pub inputs : ℕ
  pub latches : ℕ
  pub outputs : ℕ
  pub gates : ℕ

-- The header, and the numbers of each line that it counts: of an input its literal; of a latch its literal, its next value and perhaps its reset; of an output its literal; of a gate its literal and two operands.
pub record Aiger : Type 0 where
  pub header : Header
  pub lines : List (List ℕ)

abbrev pub line_count : Header → ℕ
line_count h = h.inputs + h.latches + h.outputs + h.gates

abbrev pub line_at : Aiger → ℕ → List ℕ
line_at a k = get_or a.lines k []

-- Number i of line k; 0 if the line has fewer.
abbrev pub number_at : Aiger → ℕ → ℕ → ℕ
number_at a k i = get_or (line_at a k) i 0

-- What line k is for.
pub data Section : Type 0 where
  input_line latch_line output_line gate_line : Section

abbrev pub section_of : Header → ℕ → Section
section_of h k =
    cond (ltb k h.inputs) input_line
    (cond (ltb k (h.inputs + h.latches)) latch_line
    (cond (ltb k (h.inputs + h.latches + h.outputs)) output_line gate_line))

-- ---- what is asked of the numbers

-- A definition is an even literal of 2 to 2M.
abbrev pub definition_right : Header → ℕ → Bool
definition_right h d = eqb (d % 2) 0 && leb 2 d && leb d (2 * h.maximum)

-- A line has as many numbers as its section wants; what it defines is right; a latch's reset is missing, 0, 1 or the latch itself.
abbrev pub line_right : Header → Section → List ℕ → Bool
line_right h input_line ns = eqb (length ns) 1 && definition_right h (get_or ns 0 0)
line_right h latch_line ns = (eqb (length ns) 2 || (eqb (length ns) 3 && (leb (get_or ns 2 0) 1 || eqb (get_or ns 2 0) (get_or ns 0 0)))) && definition_right h (get_or ns 0 0)
line_right h output_line ns = eqb (length ns) 1
line_right h gate_line ns = eqb (length ns) 3 && definition_right h (get_or ns 0 0)

-- The literals that a line uses.
abbrev pub uses_in : Section → List ℕ → List ℕ
uses_in input_line ns = []
uses_in latch_line ns = get_or ns 1 0 ∷ []
uses_in output_line ns = get_or ns 0 0 ∷ []
uses_in gate_line ns = get_or ns 1 0 ∷ get_or ns 2 0 ∷ []

abbrev pub uses_of : Aiger → ℕ → List ℕ
uses_of a k = uses_in (section_of a.header k) (line_at a k)

-- Nodes are numbered as rows are: 0 the constant, then inputs, latches and gates. The literal that node r is defined by; the constant's is 0.
abbrev pub node_count : Header → ℕ
node_count h = 1 + h.inputs + h.latches + h.gates

abbrev pub node_line : Header → ℕ → ℕ
node_line h k = cond (ltb k (h.inputs + h.latches)) k (k + h.outputs)

abbrev pub node_literal : Aiger → ℕ → ℕ
node_literal a zero = 0
node_literal a (suc k) = number_at a (node_line a.header k) 0

-- Of the n nodes from i on the first that has the variable x; i + n if none has.
abbrev pub node_among : Aiger → ℕ → ℕ → ℕ → ℕ
node_among a i n x = first_from i n (λ r. eqb (node_literal a r) (2 * x))

-- The node that has the literal's variable; the number of nodes if none has.
abbrev pub node_of : Aiger → ℕ → ℕ
node_of a u = node_among a 0 (node_count a.header) (u / 2)

-- No variable is defined twice, and each that is used is defined, or constant.
unfoldable pub is_distinct : Aiger → Bool
is_distinct a = all_below (node_count a.header) (λ j. all_below j (λ i. not (eqb (node_literal a i) (node_literal a j))))

unfoldable pub is_defined : Aiger → Bool
is_defined a = all_below (line_count a.header) (λ k. all_of (λ u. ltb (node_of a u) (node_count a.header)) (uses_of a k))

-- There is an output, and each line is right by itself.
unfoldable pub lines_right : Aiger → Bool
lines_right a = ltb 0 a.header.outputs && all_below (line_count a.header) (λ k. line_right a.header (section_of a.header k) (line_at a k))

unfoldable pub aiger_right : Aiger → Bool
aiger_right a = lines_right a && is_distinct a && is_defined a

-- ---- the writing

abbrev pub largest_number : ℕ
largest_number = 4294967295

-- Decimal digits without leading zeros, at most k of them: 48 is the digit 0.
abbrev pub digits : ℕ → ℕ → List ℕ
digits zero n = []
digits (suc k) n = cond (ltb n 10) ((48 + n) ∷ []) (digits k (n / 10) ++ ((48 + n % 10) ∷ []))

-- Numbers parted by single spaces (32), and a line feed (10). No number has more than ten digits.
abbrev pub line_bytes : List ℕ → List ℕ
line_bytes [] = 10 ∷ []
line_bytes (n ∷ []) = digits 10 n ++ (10 ∷ [])
line_bytes (n ∷ m ∷ ns) = digits 10 n ++ (32 ∷ line_bytes (m ∷ ns))

-- "aag ".
abbrev pub opening : List ℕ
opening = 97 ∷ 97 ∷ 103 ∷ 32 ∷ []

abbrev pub header_numbers : Header → List ℕ
header_numbers h = h.maximum ∷ h.inputs ∷ h.latches ∷ h.outputs ∷ h.gates ∷ []

unfoldable pub writing : Aiger → List ℕ
writing a = opening ++ line_bytes (header_numbers a.header) ++ join_below (length a.lines) (λ k. line_bytes (line_at a k))

-- The text is the writing of a, and then anything; and a is right.
pub record IsTextOf (text : List ℕ) (a : Aiger) : Type 0 where
  pub rest : List ℕ
  pub written : text ≡ writing a ++ rest
  pub counted : length a.lines ≡ line_count a.header
  pub numbers : all_of (all_of (λ n. leb n largest_number)) (header_numbers a.header ∷ a.lines) ≡ true
  pub right : aiger_right a ≡ true
