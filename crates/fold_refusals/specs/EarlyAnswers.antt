-- What the parts of questions 11 to 15 answer.
-- Interface: has_phase, AnswersTo.
-- Assumes nothing.
use Rattle.std.specs.Prelude.{ℕ, ◌≡◌, Bool, List, ltb, Result, Ok}
use Rattle.netlist.specs.Rows.{Row}
use Rattle.questions.specs.Questions.{Refusal, first_refusal}
use Rattle.fold_questions.specs.FoldQuestions.{phase_question}
use Rattle.fold_refusals.specs.FoldRefusals.{asked_refusal}
use Rattle.fold_refusals.specs.declared.FoldRefusal.{FoldRefusal}

-- Row i answers question 13 with no.
abbrev pub has_phase : List Row → ℕ → Bool
has_phase rows i = ltb 0 (phase_question rows i)

-- The answer to a list of questions: the first refusal, or n where none refuses.
pub record AnswersTo (questions : List Refusal) (n : ℕ) (asked : Result ℕ FoldRefusal) : Type 0 where
  pub refusal : asked_refusal asked ≡ first_refusal questions
  pub rows : (m : ℕ) → asked ≡ Ok m → m ≡ n
