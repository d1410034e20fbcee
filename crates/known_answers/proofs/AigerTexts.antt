-- AIGER texts and what Import makes of each, computed from the definitions.
-- A text stands as its bytes, and above it as it is written, \n for a line feed.
-- Assumes nothing.
use Prim.Native.Nat.{ℕ}
use mathlib.Core.Path.{◌≡◌, refl}
use mathlib.Core.List.{List, [], ◌∷◌, map}
use Rattle.netlist.specs.Limits.{import_result_bytes, import_work_bytes}
use Rattle.netlist.specs.Rows.{Row, constant, input, register, and_gate, output}
use Rattle.questions.specs.Questions.{Refusal, no_refusal, unless_refused}
use Rattle.ordering.specs.GateOrder.{lowest_ready, placed_gates, gate_order, sorted_order, new_number, sorted_netlist}
use Rattle.ordering.specs.SortQuestions.{loop_refusal}
use Rattle.aiger.specs.AigerText.{is_distinct, is_defined, lines_right, aiger_right}
use Rattle.aiger.specs.AigerReading.{more_digits, number, line, lines, header, read_lines, read_aiger}
use Rattle.aiger.specs.AigerRows.{aiger_rows, text_rows}
use Rattle.aiger.specs.ImportQuestions.{is_text, import_refusal}

-- What Import makes of a text if it is lent enough: the refusal, and the rows of the file, none if it refuses.
abbrev import_of : List ℕ → Refusal × List Row
import_of text = let q = import_refusal text import_result_bytes import_work_bytes in (q, unless_refused q (sorted_netlist (text_rows text)) [])

abbrev refused : ℕ → ℕ → Refusal × List Row
refused n p = (record { number = n; place = p }, [])

abbrev made : List Row → Refusal × List Row
made rows = (no_refusal, rows)

-- AND, inverted output: aag 3 2 0 1 1\n2\n4\n7\n6 2 4\n
abbrev text0 : List ℕ × (Refusal × List Row)
text0 = (97 ∷ 97 ∷ 103 ∷ 32 ∷ 51 ∷ 32 ∷ 50 ∷ 32 ∷ 48 ∷ 32 ∷ 49 ∷ 32 ∷ 49 ∷ 10 ∷ 50 ∷ 10 ∷ 52 ∷ 10 ∷ 55 ∷ 10 ∷ 54 ∷ 32 ∷ 50 ∷ 32 ∷ 52 ∷ 10 ∷ [], made (constant ∷ input 0 0 ∷ input 1 0 ∷ and_gate 2 4 ∷ output 7 0 0 ∷ []))

-- Operands keep the text's order: aag 3 2 0 1 1\n2\n4\n6\n6 5 2\n
abbrev text1 : List ℕ × (Refusal × List Row)
text1 = (97 ∷ 97 ∷ 103 ∷ 32 ∷ 51 ∷ 32 ∷ 50 ∷ 32 ∷ 48 ∷ 32 ∷ 49 ∷ 32 ∷ 49 ∷ 10 ∷ 50 ∷ 10 ∷ 52 ∷ 10 ∷ 54 ∷ 10 ∷ 54 ∷ 32 ∷ 53 ∷ 32 ∷ 50 ∷ 10 ∷ [], made (constant ∷ input 0 0 ∷ input 1 0 ∷ and_gate 5 2 ∷ output 6 0 0 ∷ []))

-- Gates not yet in order: aag 5 2 0 1 3\n2\n4\n10\n10 8 6\n8 2 4\n6 3 8\n
abbrev text2 : List ℕ × (Refusal × List Row)
text2 = (97 ∷ 97 ∷ 103 ∷ 32 ∷ 53 ∷ 32 ∷ 50 ∷ 32 ∷ 48 ∷ 32 ∷ 49 ∷ 32 ∷ 51 ∷ 10 ∷ 50 ∷ 10 ∷ 52 ∷ 10 ∷ 49 ∷ 48 ∷ 10 ∷ 49 ∷ 48 ∷ 32 ∷ 56 ∷ 32 ∷ 54 ∷ 10 ∷ 56 ∷ 32 ∷ 50 ∷ 32 ∷ 52 ∷ 10 ∷ 54 ∷ 32 ∷ 51 ∷ 32 ∷ 56 ∷ 10 ∷ [], made (constant ∷ input 0 0 ∷ input 1 0 ∷ and_gate 2 4 ∷ and_gate 3 6 ∷ and_gate 6 8 ∷ output 10 0 0 ∷ []))

-- Lowest ready first, not ascending passes: aag 4 1 0 1 3\n2\n8\n4 6 2\n6 2 3\n8 2 2\n
abbrev text3 : List ℕ × (Refusal × List Row)
text3 = (97 ∷ 97 ∷ 103 ∷ 32 ∷ 52 ∷ 32 ∷ 49 ∷ 32 ∷ 48 ∷ 32 ∷ 49 ∷ 32 ∷ 51 ∷ 10 ∷ 50 ∷ 10 ∷ 56 ∷ 10 ∷ 52 ∷ 32 ∷ 54 ∷ 32 ∷ 50 ∷ 10 ∷ 54 ∷ 32 ∷ 50 ∷ 32 ∷ 51 ∷ 10 ∷ 56 ∷ 32 ∷ 50 ∷ 32 ∷ 50 ∷ 10 ∷ [], made (constant ∷ input 0 0 ∷ and_gate 2 3 ∷ and_gate 4 2 ∷ and_gate 2 2 ∷ output 8 0 0 ∷ []))

-- Variables sparse and descending: aag 900 1 1 1 1\n900\n40 1800\n1801\n1800 900 41\n
abbrev text4 : List ℕ × (Refusal × List Row)
text4 = (97 ∷ 97 ∷ 103 ∷ 32 ∷ 57 ∷ 48 ∷ 48 ∷ 32 ∷ 49 ∷ 32 ∷ 49 ∷ 32 ∷ 49 ∷ 32 ∷ 49 ∷ 10 ∷ 57 ∷ 48 ∷ 48 ∷ 10 ∷ 52 ∷ 48 ∷ 32 ∷ 49 ∷ 56 ∷ 48 ∷ 48 ∷ 10 ∷ 49 ∷ 56 ∷ 48 ∷ 49 ∷ 10 ∷ 49 ∷ 56 ∷ 48 ∷ 48 ∷ 32 ∷ 57 ∷ 48 ∷ 48 ∷ 32 ∷ 52 ∷ 49 ∷ 10 ∷ [], made (constant ∷ input 0 0 ∷ register 0 6 0 ∷ and_gate 2 5 ∷ output 7 0 0 ∷ []))

-- Latch resets: missing, 0, 1, itself: aag 4 0 4 1 0\n2 4\n4 6 0\n6 8 1\n8 2 8\n8\n
abbrev text5 : List ℕ × (Refusal × List Row)
text5 = (97 ∷ 97 ∷ 103 ∷ 32 ∷ 52 ∷ 32 ∷ 48 ∷ 32 ∷ 52 ∷ 32 ∷ 49 ∷ 32 ∷ 48 ∷ 10 ∷ 50 ∷ 32 ∷ 52 ∷ 10 ∷ 52 ∷ 32 ∷ 54 ∷ 32 ∷ 48 ∷ 10 ∷ 54 ∷ 32 ∷ 56 ∷ 32 ∷ 49 ∷ 10 ∷ 56 ∷ 32 ∷ 50 ∷ 32 ∷ 56 ∷ 10 ∷ 56 ∷ 10 ∷ [], made (constant ∷ register 0 4 0 ∷ register 0 6 1 ∷ register 1 8 2 ∷ register 2 2 3 ∷ output 8 0 0 ∷ []))

-- M at its largest, variable at its largest: aag 4294967295 1 0 1 0\n4294967294\n4294967295\n
abbrev text6 : List ℕ × (Refusal × List Row)
text6 = (97 ∷ 97 ∷ 103 ∷ 32 ∷ 52 ∷ 50 ∷ 57 ∷ 52 ∷ 57 ∷ 54 ∷ 55 ∷ 50 ∷ 57 ∷ 53 ∷ 32 ∷ 49 ∷ 32 ∷ 48 ∷ 32 ∷ 49 ∷ 32 ∷ 48 ∷ 10 ∷ 52 ∷ 50 ∷ 57 ∷ 52 ∷ 57 ∷ 54 ∷ 55 ∷ 50 ∷ 57 ∷ 52 ∷ 10 ∷ 52 ∷ 50 ∷ 57 ∷ 52 ∷ 57 ∷ 54 ∷ 55 ∷ 50 ∷ 57 ∷ 53 ∷ 10 ∷ [], made (constant ∷ input 0 0 ∷ output 3 0 0 ∷ []))

-- Symbols and comment after the counted lines: aag 1 1 0 1 0\n2\n2\ni0 a\nc\nmade by hand\n
abbrev text7 : List ℕ × (Refusal × List Row)
text7 = (97 ∷ 97 ∷ 103 ∷ 32 ∷ 49 ∷ 32 ∷ 49 ∷ 32 ∷ 48 ∷ 32 ∷ 49 ∷ 32 ∷ 48 ∷ 10 ∷ 50 ∷ 10 ∷ 50 ∷ 10 ∷ 105 ∷ 48 ∷ 32 ∷ 97 ∷ 10 ∷ 99 ∷ 10 ∷ 109 ∷ 97 ∷ 100 ∷ 101 ∷ 32 ∷ 98 ∷ 121 ∷ 32 ∷ 104 ∷ 97 ∷ 110 ∷ 100 ∷ 10 ∷ [], made (constant ∷ input 0 0 ∷ output 2 0 0 ∷ []))

-- A loop through a latch is none: aag 3 1 1 1 1\n2\n4 6\n6\n6 4 2\n
abbrev text8 : List ℕ × (Refusal × List Row)
text8 = (97 ∷ 97 ∷ 103 ∷ 32 ∷ 51 ∷ 32 ∷ 49 ∷ 32 ∷ 49 ∷ 32 ∷ 49 ∷ 32 ∷ 49 ∷ 10 ∷ 50 ∷ 10 ∷ 52 ∷ 32 ∷ 54 ∷ 10 ∷ 54 ∷ 10 ∷ 54 ∷ 32 ∷ 52 ∷ 32 ∷ 50 ∷ 10 ∷ [], made (constant ∷ input 0 0 ∷ register 0 6 0 ∷ and_gate 4 2 ∷ output 6 0 0 ∷ []))

-- Behind a loop: the lowest is not in it: aag 4 1 0 1 3\n2\n4\n4 6 2\n6 8 2\n8 7 2\n
abbrev text9 : List ℕ × (Refusal × List Row)
text9 = (97 ∷ 97 ∷ 103 ∷ 32 ∷ 52 ∷ 32 ∷ 49 ∷ 32 ∷ 48 ∷ 32 ∷ 49 ∷ 32 ∷ 51 ∷ 10 ∷ 50 ∷ 10 ∷ 52 ∷ 10 ∷ 52 ∷ 32 ∷ 54 ∷ 32 ∷ 50 ∷ 10 ∷ 54 ∷ 32 ∷ 56 ∷ 32 ∷ 50 ∷ 10 ∷ 56 ∷ 32 ∷ 55 ∷ 32 ∷ 50 ∷ 10 ∷ [], refused 22 2)

-- Leading zero: aag 1 1 0 1 0\n02\n2\n
abbrev text10 : List ℕ × (Refusal × List Row)
text10 = (97 ∷ 97 ∷ 103 ∷ 32 ∷ 49 ∷ 32 ∷ 49 ∷ 32 ∷ 48 ∷ 32 ∷ 49 ∷ 32 ∷ 48 ∷ 10 ∷ 48 ∷ 50 ∷ 10 ∷ 50 ∷ 10 ∷ [], refused 24 0)

-- Last line feed missing: aag 0 0 0 1 0\n0
abbrev text11 : List ℕ × (Refusal × List Row)
text11 = (97 ∷ 97 ∷ 103 ∷ 32 ∷ 48 ∷ 32 ∷ 48 ∷ 32 ∷ 48 ∷ 32 ∷ 49 ∷ 32 ∷ 48 ∷ 10 ∷ 48 ∷ [], refused 24 0)

-- Odd definition: aag 2 1 0 1 0\n3\n0\n
abbrev text12 : List ℕ × (Refusal × List Row)
text12 = (97 ∷ 97 ∷ 103 ∷ 32 ∷ 50 ∷ 32 ∷ 49 ∷ 32 ∷ 48 ∷ 32 ∷ 49 ∷ 32 ∷ 48 ∷ 10 ∷ 51 ∷ 10 ∷ 48 ∷ 10 ∷ [], refused 24 0)

-- Definition above 2M: aag 1 1 0 1 0\n4\n4\n
abbrev text13 : List ℕ × (Refusal × List Row)
text13 = (97 ∷ 97 ∷ 103 ∷ 32 ∷ 49 ∷ 32 ∷ 49 ∷ 32 ∷ 48 ∷ 32 ∷ 49 ∷ 32 ∷ 48 ∷ 10 ∷ 52 ∷ 10 ∷ 52 ∷ 10 ∷ [], refused 24 0)

-- Input defined twice: aag 2 2 0 1 0\n2\n2\n2\n
abbrev text14 : List ℕ × (Refusal × List Row)
text14 = (97 ∷ 97 ∷ 103 ∷ 32 ∷ 50 ∷ 32 ∷ 50 ∷ 32 ∷ 48 ∷ 32 ∷ 49 ∷ 32 ∷ 48 ∷ 10 ∷ 50 ∷ 10 ∷ 50 ∷ 10 ∷ 50 ∷ 10 ∷ [], refused 24 0)

-- Operand undefined: aag 3 1 0 1 1\n2\n4\n4 2 6\n
abbrev text15 : List ℕ × (Refusal × List Row)
text15 = (97 ∷ 97 ∷ 103 ∷ 32 ∷ 51 ∷ 32 ∷ 49 ∷ 32 ∷ 48 ∷ 32 ∷ 49 ∷ 32 ∷ 49 ∷ 10 ∷ 50 ∷ 10 ∷ 52 ∷ 10 ∷ 52 ∷ 32 ∷ 50 ∷ 32 ∷ 54 ∷ 10 ∷ [], refused 24 0)

-- Reset 2 of latch 4: aag 2 1 1 1 0\n2\n4 2 2\n4\n
abbrev text16 : List ℕ × (Refusal × List Row)
text16 = (97 ∷ 97 ∷ 103 ∷ 32 ∷ 50 ∷ 32 ∷ 49 ∷ 32 ∷ 49 ∷ 32 ∷ 49 ∷ 32 ∷ 48 ∷ 10 ∷ 50 ∷ 10 ∷ 52 ∷ 32 ∷ 50 ∷ 32 ∷ 50 ∷ 10 ∷ 52 ∷ 10 ∷ [], refused 24 0)

-- 24 before 22: aag 3 1 0 1 1\n2\n4\n4 4 6\n
abbrev text17 : List ℕ × (Refusal × List Row)
text17 = (97 ∷ 97 ∷ 103 ∷ 32 ∷ 51 ∷ 32 ∷ 49 ∷ 32 ∷ 48 ∷ 32 ∷ 49 ∷ 32 ∷ 49 ∷ 10 ∷ 50 ∷ 10 ∷ 52 ∷ 10 ∷ 52 ∷ 32 ∷ 52 ∷ 32 ∷ 54 ∷ 10 ∷ [], refused 24 0)

abbrev texts : List (List ℕ × (Refusal × List Row))
texts = text0 ∷ text1 ∷ text2 ∷ text3 ∷ text4 ∷ text5 ∷ text6 ∷ text7 ∷ text8 ∷ text9 ∷ text10 ∷ text11 ∷ text12 ∷ text13 ∷ text14 ∷ text15 ∷ text16 ∷ text17 ∷ []

pub aiger-texts : map (λ (t : List ℕ × (Refusal × List Row)). import_of t.0) texts ≡ map (λ (t : List ℕ × (Refusal × List Row)). t.1) texts
unfolding import_refusal is_text text_rows aiger_rows read_aiger read_lines header lines line number more_digits aiger_right lines_right is_distinct is_defined loop_refusal lowest_ready placed_gates gate_order sorted_order new_number sorted_netlist
aiger-texts = refl
