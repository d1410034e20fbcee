-- Import's questions and its refusal: the change requests, "AIGER text in". 23, 24, 25, then 22, whose place is the gate's row before sorting.
-- Interface: import_memory_right, is_text, import_refusal.
-- Assumes nothing.
use Rattle.std.specs.Prelude.{ℕ, Bool, true, false, ◌&&◌, List, [], ◌∷◌, length, leb}
use Rattle.std.proofs.Math.Option.{none, some}
use Rattle.netlist.specs.Limits.{most_rows, import_result_bytes, import_work_bytes}
use Rattle.questions.specs.Questions.{Refusal, first_refusal, question}
use Rattle.ordering.specs.SortQuestions.{loop_refusal}
use Rattle.aiger.specs.AigerReading.{read_aiger}
use Rattle.aiger.specs.AigerRows.{text_rows}

-- 23, of the lengths of result and work.
abbrev pub import_memory_right : ℕ → ℕ → Bool
import_memory_right result work = leb import_result_bytes result && leb import_work_bytes work

-- 24.
unfoldable pub is_text : List ℕ → Bool
is_text text = elim (read_aiger text) [ none ↦ false | some a ↦ true ]

unfoldable pub import_refusal : List ℕ → ℕ → ℕ → Refusal
import_refusal text result work =
    first_refusal (question 23 (import_memory_right result work) ∷ question 24 (is_text text) ∷ question 25 (leb (length (text_rows text)) most_rows) ∷ loop_refusal (text_rows text) ∷ [])
