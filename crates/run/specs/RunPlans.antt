-- What Run plans: the questions, and the counts that its steps go by.
-- Assumes nothing.
use Rattle.std.specs.Prelude.{ℕ, ◌≡◌, not, List, length, Result, Ok, Err}
use Rattle.memory.specs.Lists.{count_if}
use Rattle.netlist.specs.Rows.{Row, is_input, is_output}
use Rattle.netlist.specs.FileFormat.{netlist_of}
use Rattle.questions.specs.Questions.{Refusal, no_refusal, first_refusal, step_questions, run_refusal, Counts, counts_of}
use Rattle.run_answers.specs.RunAnswers.{run_refusal_in}
use Rattle.run_answers.specs.declared.RunRefusal.{RunRefusal}
use Rattle.simulate.specs.declared.Sizes.{Sizes}

abbrev pub plan_refusal : Result Sizes RunRefusal → Refusal
plan_refusal (Ok _) = no_refusal
plan_refusal (Err r) = run_refusal_in r

-- The first no of questions 17 to 20.
unfoldable pub steps_refusal : List Row → ℕ → List ℕ → List ℕ → ℕ → ℕ → Refusal
steps_refusal rows T choices inputs result work = first_refusal (step_questions rows T choices inputs result work)

-- They are asked of any netlist that has these counts, and n rows are to be run.
pub record StepsPlanned (n : ℕ) (counts : Counts) (T : ℕ) (choices inputs : List ℕ) (result work : ℕ) (plan : Result Sizes RunRefusal) : Type 0 where
  pub refusal : (rows : List Row) → counts ≡ counts_of rows → plan_refusal plan ≡ steps_refusal rows T choices inputs result work
  pub go : (s : Sizes) → plan ≡ Ok s → (s.rows ≡ n) × ((s.nodes ≡ counts.nodes) × (s.inputs ≡ counts.inputs))

-- All questions are asked of the file, and its counts are those to go by.
pub record RunPlanned (file : List ℕ) (T : ℕ) (choices inputs : List ℕ) (result work : ℕ) (plan : Result Sizes RunRefusal) : Type 0 where
  pub refusal : plan_refusal plan ≡ run_refusal file T choices inputs result work
  pub go : (s : Sizes) → plan ≡ Ok s → (s.rows ≡ length (netlist_of file)) × ((s.nodes ≡ count_if (λ r. not (is_output r)) (netlist_of file)) × (s.inputs ≡ count_if is_input (netlist_of file)))
