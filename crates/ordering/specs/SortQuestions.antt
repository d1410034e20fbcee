-- Sort's questions and its refusal: the change requests, "gates in any order". Questions 1 to 10, where a gate may name any node, then 23, then 22.
-- The place of 22 is the lowest gate that is never placed: it is in a loop of gates, or behind one.
-- Interface: loop_refusal, sort_refusal.
-- Assumes nothing.
use Rattle.std.specs.Prelude.{ℕ, Bool, cond, not, ◌&&◌, List, [], ◌∷◌, length, leb}
use Rattle.netlist.specs.Limits.{row_work_bytes}
use Rattle.netlist.specs.Rows.{Row, row_at}
use Rattle.netlist.specs.FileFormat.{netlist_of}
use Rattle.questions.specs.Questions.{Refusal, first_refusal, question, item_questions, unordered_refusal}
use Rattle.ordering.specs.GateOrder.{is_gate, is_in, gate_order}

-- 22, of row i.
abbrev pub loop_question : List Row → ℕ → ℕ
loop_question rows i = cond (is_gate (row_at rows i) && not (is_in i (gate_order rows))) 22 0

unfoldable pub loop_refusal : List Row → Refusal
loop_refusal rows = item_questions (length rows) (loop_question rows)

-- 23, of the file and the lengths of result and work.
abbrev pub sort_memory_right : List ℕ → ℕ → ℕ → Bool
sort_memory_right file result work = leb (length file) result && leb (row_work_bytes (length (netlist_of file))) work

unfoldable pub sort_refusal : List ℕ → ℕ → ℕ → Refusal
sort_refusal file result work = first_refusal (unordered_refusal file ∷ question 23 (sort_memory_right file result work) ∷ loop_refusal (netlist_of file) ∷ [])
