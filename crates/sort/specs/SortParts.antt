-- What Sort's parts hand on: the plan, and what is made of rows that are to be sorted.
-- Assumes nothing.
use Rattle.std.specs.Prelude.{ℕ, ◌*◌, ◌≤◌, ◌≡◌, List, [], ◌∷◌, length, Result, Ok, Err}
use Rattle.netlist.specs.Limits.{row_work_bytes}
use Rattle.netlist.specs.FileFormat.{blocks_for}
use Rattle.questions.specs.Questions.{Refusal, no_refusal, first_refusal, question, unordered_refusal}
use Rattle.ordering.specs.SortQuestions.{sort_memory_right}
use Rattle.gate_rows.specs.Sources.{Source}
use Rattle.gate_rows.specs.declared.Layout.TheVariants as layout
use Rattle.sort_answers.specs.SortAnswers.{sort_refusal_in}
use Rattle.sort_answers.specs.declared.SortRefusal.{SortRefusal}

-- The file passes questions 1 to 10: it has n rows, and as many blocks as they take.
pub record Sortable (file : List ℕ) (n : ℕ) : Type 0 where
  pub source : Source layout.File file n
  pub size : length file ≡ 512 * blocks_for n

-- 1 to 10 and 23, of the lengths of result and work.
abbrev pub plan_asked : List ℕ → ℕ → ℕ → Refusal
plan_asked file result work = first_refusal (unordered_refusal file ∷ question 23 (sort_memory_right file result work) ∷ [])

abbrev pub plan_refusal : Result ℕ SortRefusal → Refusal
plan_refusal (Ok _) = no_refusal
plan_refusal (Err r) = sort_refusal_in r

pub record SortPlanned (file : List ℕ) (result work : ℕ) (plan : Result ℕ SortRefusal) : Type 0 where
  pub refusal : plan_refusal plan ≡ plan_asked file result work
  pub go : (n : ℕ) → plan ≡ Ok n → Sortable file n × ((length file ≤ result) × (row_work_bytes n ≤ work))
