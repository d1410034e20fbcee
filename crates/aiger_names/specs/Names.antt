-- Nodes of an AIGER text taken in windows: which uses a window has, what the pairs are once they are looked up, and what is left when all are.
-- The pair of row r is two numbers of 16 bits, at 4 * r.
-- Interface: name_bytes, NamesRoom, PairsStand; inside the crate the rest.
-- Assumes nothing.
use Rattle.std.specs.Prelude.{ℕ, zero, suc, ◌+◌, ◌-◌, ◌*◌, ◌/◌, ◌%◌, ◌<◌, ◌≤◌, min, ◌≡◌, Bool, true, false, cond, ◌&&◌, List, [], ◌∷◌, length, get_or, Result, Ok, Err, ltb, leb}
use Rattle.memory.specs.Lists.{count_if}
use Rattle.memory.specs.Fields.{u16_at}
use Rattle.memory.specs.Frames.{KeptOutside}
use Rattle.netlist.specs.Limits.{most_rows}
use Rattle.aiger.specs.AigerText.{Header, Aiger, Section, input_line, latch_line, output_line, gate_line, line_count, line_at, number_at, section_of, uses_in, uses_of, is_distinct, node_count, node_literal, node_among}
use Rattle.aiger.specs.AigerRows.{latch_line_of, output_line_of, gate_line_of, row_literal, reset_code}
use Rattle.aiger_lines.specs.Lines.{aiger_in, LineStart}
use Rattle.aiger_lines.specs.declared.Line.{Line}
use Rattle.name_tree.specs.Trees.{variable_at, entry_of, Tree}
use Rattle.aiger_names.specs.declared.Window.{Window}
use Rattle.aiger_names.specs.declared.Place.{Place}
use Rattle.aiger_names.specs.declared.DefinedTwice.{DefinedTwice}

-- The bytes that pairs and tree are lent: enough for the pairs of as many rows as a file has, and a tree of all their nodes.
abbrev pub name_bytes : ℕ
name_bytes = 393216

-- ---- lines and rows

-- A line of the section defines a variable.
abbrev pub defines_in : Section → Bool
defines_in input_line = true
defines_in latch_line = true
defines_in output_line = false
defines_in gate_line = true

abbrev pub defines_at : Header → ℕ → Bool
defines_at h k = defines_in (section_of h k)

-- The row of line k: nodes come before outputs.
abbrev pub row_of_line : Header → ℕ → ℕ
row_of_line h k =
    cond (ltb k (h.inputs + h.latches)) (k + 1)
    (cond (ltb k (h.inputs + h.latches + h.outputs)) (k + 1 + h.gates) (k + 1 - h.outputs))

-- How many nodes stand before line k, the constant among them.
abbrev pub nodes_before : Header → ℕ → ℕ
nodes_before h k = 1 + min k (h.inputs + h.latches) + (k - (h.inputs + h.latches + h.outputs))

-- The place is where its line begins, and has its number of nodes.
pub record PlaceIs (text : List ℕ) (p : Place) : Type 0 where
  pub inside : p.line ≤ line_count (aiger_in text).header
  pub start : LineStart text p.line p.at
  pub node : p.node ≡ nodes_before (aiger_in text).header p.line

-- ---- windows

-- What is found of the variable x: its node, or the window's end. Nodes of the first window have their numbers as variables; those of the others are the entries of a tree.
unfoldable pub found_in : List ℕ → ℕ → Window → ℕ → ℕ
found_in w base win x =
    cond win.tree (win.start + entry_of w base (win.end - win.start) x) (cond (ltb x win.end) x win.end)

-- The window has the nodes from its start to its end.
pub record WindowStands (a : Aiger) (w : List ℕ) (base : ℕ) (win : Window) : Type 0 where
  pub ordered : win.start ≤ win.end
  pub inside : win.end ≤ node_count a.header
  pub run : win.tree ≡ false → (win.start ≡ 0) × ((r : ℕ) → r < win.end → node_literal a r ≡ 2 * r)
  pub tree : win.tree ≡ true → Tree w base (win.end - win.start) × ((j : ℕ) → j < win.end - win.start → node_literal a (win.start + j) ≡ 2 * variable_at w base j)

-- What is asked of a window before it is looked up.
pub record WindowReady (w : List ℕ) (base : ℕ) (win : Window) : Type 0 where
  pub ordered : win.start ≤ win.end
  pub tree : win.tree ≡ true → Tree w base (win.end - win.start)

-- Nodes below n have their numbers as variables.
abbrev pub CountsUp : Aiger → ℕ → Type 0
CountsUp a n = (r : ℕ) → r < n → node_literal a r ≡ 2 * r

-- The entries of the tree are the n nodes from s on.
pub record TreeHas (a : Aiger) (w : List ℕ) (base s n : ℕ) : Type 0 where
  pub tree : Tree w base n
  pub literals : (j : ℕ) → j < n → node_literal a (s + j) ≡ 2 * variable_at w base j

-- The node of s to e - 1 that has the literal's variable; e if none has.
abbrev pub node_in : Aiger → ℕ → ℕ → ℕ → ℕ
node_in a s e u = node_among a s (e - s) (u / 2)

-- How many of the uses of line k, and of the first m lines, have a node of s to e - 1.
abbrev pub uses_found : Aiger → ℕ → ℕ → ℕ → ℕ
uses_found a s e k = count_if (λ (u : ℕ). ltb (node_in a s e u) e) (uses_of a k)

unfoldable pub lines_found : Aiger → ℕ → ℕ → ℕ → ℕ
lines_found a s e zero = 0
lines_found a s e (suc m) = lines_found a s e m + uses_found a s e m

abbrev pub use_count : Header → ℕ
use_count h = h.latches + h.outputs + 2 * h.gates

-- Each node below s has another literal than every later node.
abbrev pub DistinctBelow : Aiger → ℕ → Type 0
DistinctBelow a s = (i j : ℕ) → i < s → i < j → j < node_count a.header → ¬ (node_literal a i ≡ node_literal a j)

-- ---- pairs

-- Where use i of line k stands in the pairs, and this use.
abbrev pub use_offset : Header → ℕ → ℕ → ℕ
use_offset h k i = 4 * row_of_line h k + 2 * i

abbrev pub use_at : Aiger → ℕ → ℕ → ℕ
use_at a k i = get_or (uses_of a k) i 0

-- The first m lines are looked up: a use that the window has is set, another one stays.
pub record PairsLooked (a : Aiger) (s e m : ℕ) (w w' : List ℕ) : Type 0 where
  pub uses : (k i : ℕ) → k < m → i < length (uses_of a k) → u16_at w' (use_offset a.header k i) ≡ cond (ltb (node_in a s e (use_at a k i)) e) (2 * node_in a s e (use_at a k i) + use_at a k i % 2) (u16_at w (use_offset a.header k i))
  pub resets : (k : ℕ) → k < m → section_of a.header k ≡ latch_line → u16_at w' (4 * row_of_line a.header k + 2) ≡ reset_code (line_at a k)
  pub later : (k i : ℕ) → m ≤ k → k < line_count a.header → i < 2 → u16_at w' (use_offset a.header k i) ≡ u16_at w (use_offset a.header k i)

-- Each use whose node is below s is set.
abbrev pub PairsBelow : Aiger → ℕ → List ℕ → Type 0
PairsBelow a s w = (k i v : ℕ) → k < line_count a.header → i < length (uses_of a k) → v < s → node_literal a v ≡ 2 * (use_at a k i / 2) → u16_at w (use_offset a.header k i) ≡ 2 * v + use_at a k i % 2

abbrev pub ResetsStand : Aiger → List ℕ → Type 0
ResetsStand a w = (k : ℕ) → k < line_count a.header → section_of a.header k ≡ latch_line → u16_at w (4 * row_of_line a.header k + 2) ≡ reset_code (line_at a k)

-- The pairs of latches, gates and outputs are those of the rows.
pub record PairsStand (a : Aiger) (w : List ℕ) : Type 0 where
  pub nexts : (j : ℕ) → j < a.header.latches → u16_at w (4 * (1 + a.header.inputs + j)) ≡ row_literal a (number_at a (latch_line_of a j) 1)
  pub resets : (j : ℕ) → j < a.header.latches → u16_at w (4 * (1 + a.header.inputs + j) + 2) ≡ reset_code (line_at a (latch_line_of a j))
  pub firsts : (j : ℕ) → j < a.header.gates → u16_at w (4 * (1 + a.header.inputs + a.header.latches + j)) ≡ row_literal a (number_at a (gate_line_of a j) 1)
  pub seconds : (j : ℕ) → j < a.header.gates → u16_at w (4 * (1 + a.header.inputs + a.header.latches + j) + 2) ≡ row_literal a (number_at a (gate_line_of a j) 2)
  pub outputs : (j : ℕ) → j < a.header.outputs → u16_at w (4 * (node_count a.header + j)) ≡ row_literal a (number_at a (output_line_of a j) 0)

-- Memory: the tree stands from `base` on and has room for an entry; if the rows fit a file, their pairs stand before it.
pub record NamesRoom (h : Header) (fits : Bool) (base : ℕ) (w : List ℕ) : Type 0 where
  pub long : name_bytes ≤ length w
  pub small : base + 8 ≤ name_bytes
  pub pairs : fits ≡ true → (base ≡ 4 * (node_count h + h.outputs)) × (node_count h + h.outputs ≤ most_rows)

-- ---- what the parts hand on

-- The tree that was filled from the place on: where it ends, or that a variable is defined twice.
pub record TreeFilled (text : List ℕ) (from next : Place) (base : ℕ) (w w' : List ℕ) : Type 0 where
  pub place : PlaceIs text next
  pub more : from.node < next.node
  pub has : TreeHas (aiger_in text) w' base from.node (next.node - from.node)
  pub outside : KeptOutside base name_bytes w w'

abbrev pub FilledIs : List ℕ → Place → ℕ → List ℕ → List ℕ → Result Place DefinedTwice → Type 0
FilledIs text place base w w' (Ok next) = TreeFilled text place next base w w'
FilledIs text place base w w' (Err e) = is_distinct (aiger_in text) ≡ false

-- What one line uses, by its section.
abbrev pub line_uses : Section → Line → List ℕ
line_uses section l = uses_in section (l.first ∷ l.second ∷ l.third ∷ [])

-- The line defines a variable that an earlier node of the window has; `row` is the line's.
abbrev pub defined_before : List ℕ → ℕ → Window → ℕ → Section → Line → Bool
defined_before w base win row section l = defines_in section && (leb win.end row && ltb (found_in w base win (l.first / 2)) win.end)

-- The pairs of a row, which end at `to`, stand before the tree if pairs are kept, and nodes below e are rows of a file.
pub record PairRoom (fits : Bool) (to base e : ℕ) (w : List ℕ) : Type 0 where
  pub long : base ≤ length w
  pub inside : fits ≡ true → to ≤ base
  pub few : fits ≡ true → e ≤ most_rows

-- One literal is looked up: n is 1 if the window has its node, and then it is set at `offset` if pairs are kept.
pub record LiteralLooked (fits : Bool) (base : ℕ) (win : Window) (offset u : ℕ) (w w' : List ℕ) (n : ℕ) : Type 0 where
  pub count : n ≡ cond (ltb (found_in w base win (u / 2)) win.end) 1 0
  pub none : fits ≡ false → w' ≡ w
  pub kept : fits ≡ true → KeptOutside offset (offset + 2) w w'
  pub set : fits ≡ true → u16_at w' offset ≡ cond (ltb (found_in w base win (u / 2)) win.end) (2 * found_in w base win (u / 2) + u % 2) (u16_at w offset)

-- The line's uses are looked up: n of them are found, and these are set in the row's pair if pairs are kept.
pub record UsesLooked (fits : Bool) (base : ℕ) (win : Window) (row : ℕ) (section : Section) (l : Line) (w w' : List ℕ) (n : ℕ) : Type 0 where
  pub count : n ≡ count_if (λ (u : ℕ). ltb (found_in w base win (u / 2)) win.end) (line_uses section l)
  pub none : fits ≡ false → w' ≡ w
  pub kept : fits ≡ true → KeptOutside (4 * row) (4 * row + 4) w w'
  pub uses : fits ≡ true → (i : ℕ) → i < length (line_uses section l) → let u = get_or (line_uses section l) i 0 in let v = found_in w base win (u / 2) in u16_at w' (4 * row + 2 * i) ≡ cond (ltb v win.end) (2 * v + u % 2) (u16_at w (4 * row + 2 * i))
  pub reset : fits ≡ true → section ≡ latch_line → u16_at w' (4 * row + 2) ≡ cond (leb l.third 1) l.third 2

-- One line of the walk, number k.
pub record LineLooked (h : Header) (fits : Bool) (base : ℕ) (win : Window) (k : ℕ) (l : Line) (w w' : List ℕ) (n : ℕ) : Type 0 where
  pub fresh : defined_before w base win (row_of_line h k) (section_of h k) l ≡ false
  pub uses : UsesLooked fits base win (row_of_line h k) (section_of h k) l w w' n

-- Line k defines a variable that the window has.
pub record LineTwice (h : Header) (base : ℕ) (win : Window) (k : ℕ) (l : Line) (w : List ℕ) : Type 0 where
  pub before : defined_before w base win (row_of_line h k) (section_of h k) l ≡ true

abbrev pub LineLookedIs : Header → Bool → ℕ → Window → ℕ → Line → List ℕ → List ℕ → Result ℕ DefinedTwice → Type 0
LineLookedIs h fits base win k l w w' (Ok n) = LineLooked h fits base win k l w w' n
LineLookedIs h fits base win k l w w' (Err e) = LineTwice h base win k l w

-- The whole walk for the window of nodes s to e - 1: n uses are found, no later definition is one of the window's.
pub record LookedUp (a : Aiger) (fits : Bool) (base s e : ℕ) (w w' : List ℕ) (n : ℕ) : Type 0 where
  pub found : n ≡ lines_found a s e (line_count a.header)
  pub later : (k : ℕ) → k < line_count a.header → defines_at a.header k ≡ true → e ≤ row_of_line a.header k → node_in a s e (number_at a k 0) ≡ e
  pub pairs : fits ≡ true → PairsLooked a s e (line_count a.header) w w'
  pub kept : KeptOutside 0 base w w'

abbrev pub LookedIs : Aiger → Bool → ℕ → ℕ → ℕ → List ℕ → List ℕ → Result ℕ DefinedTwice → Type 0
LookedIs a fits base s e w w' (Ok n) = LookedUp a fits base s e w w' n
LookedIs a fits base s e w w' (Err t) = is_distinct a ≡ false

-- A window from node s on is taken: where it ends, n the uses that it has.
pub record WindowTaken (text : List ℕ) (fits : Bool) (s : ℕ) (next : Place) (w w' : List ℕ) (n : ℕ) : Type 0 where
  pub place : PlaceIs text next
  pub more : s < next.node
  pub found : n ≡ lines_found (aiger_in text) s next.node (line_count (aiger_in text).header)
  pub distinct : DistinctBelow (aiger_in text) s → DistinctBelow (aiger_in text) next.node
  pub pairs : fits ≡ true → PairsLooked (aiger_in text) s next.node (line_count (aiger_in text).header) w w'
  pub long : length w' ≡ length w

abbrev pub TakenIs : List ℕ → Bool → ℕ → List ℕ → List ℕ → Result (Place × ℕ) DefinedTwice → Type 0
TakenIs text fits s w w' (Ok t) = WindowTaken text fits s t.0 w w' t.1
TakenIs text fits s w w' (Err e) = is_distinct (aiger_in text) ≡ false
