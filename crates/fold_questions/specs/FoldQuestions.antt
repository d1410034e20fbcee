-- Fold's own questions, 11 to 16: the scope paper, "Questions, in order". Before them Fold asks 1 to 10 of the file.
-- Interface: fold_refusal; original_refusal (11 to 13), argument_questions (14 and 15), has_lasso (16).
-- Assumes nothing.
use Rattle.std.specs.Prelude.{ℕ, Bool, true, false, cond, ◌&&◌, List, [], ◌∷◌, ◌++◌, length, eqb, leb}
use Rattle.std.proofs.Math.Option.{none, some}
use Rattle.memory.specs.Lists.{count_if}
use Rattle.netlist.specs.Limits.{most_phases, most_original_rows, most_original_registers, fold_result_bytes, fold_work_bytes, fold_clock_entries}
use Rattle.netlist.specs.Rows.{Row, row_at, phase_of, is_register}
use Rattle.netlist.specs.FileFormat.{netlist_of}
use Rattle.lasso.specs.LassoSearch.{find_lasso}
use Rattle.questions.specs.Questions.{Refusal, first_refusal, question, item_questions, file_refusal}

-- 13, of row i.
abbrev pub phase_question : List Row → ℕ → ℕ
phase_question rows i = cond (eqb (phase_of (row_at rows i)) 0) 0 13

-- 11 to 13: what Fold asks of the rows alone.
unfoldable pub original_refusal : List Row → Refusal
original_refusal rows = first_refusal (question 11 (leb (length rows) most_original_rows) ∷ question 12 (leb (count_if is_register rows) most_original_registers) ∷ item_questions (length rows) (phase_question rows) ∷ [])

abbrev pub fold_memory_right : ℕ → ℕ → ℕ → Bool
fold_memory_right result work clocks = leb fold_result_bytes result && leb fold_work_bytes work && leb fold_clock_entries clocks

abbrev pub has_lasso : List Row → Bool
has_lasso rows = elim (find_lasso rows) [ none ↦ false | some z ↦ true ]

-- 14 and 15: what Fold asks of the wish and of what it is lent.
abbrev pub argument_questions : ℕ → ℕ → ℕ → ℕ → List Refusal
argument_questions wish result work clocks = question 14 (leb wish most_phases) ∷ question 15 (fold_memory_right result work clocks) ∷ []

unfoldable pub fold_refusal : List ℕ → ℕ → ℕ → ℕ → ℕ → Refusal
fold_refusal file wish result work clocks =
    first_refusal
    (file_refusal file
    ∷ original_refusal (netlist_of file)
    ∷ argument_questions wish result work clocks
    ++ (question 16 (has_lasso (netlist_of file)) ∷ []))
