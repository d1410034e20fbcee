-- Sort's answers as the refusals of the scope paper and the change requests: number and place.
-- Interface: sort_refusal_in, sorting_refusal, rows_in.
-- Assumes nothing.
use Rattle.std.specs.Prelude.{ℕ, Result, Ok, Err}
use Rattle.questions.specs.Questions.{Refusal, no_refusal}
use Rattle.accept.specs.Refusals.{refusal_in}
use Rattle.sort_answers.specs.declared.SortRefusal.{SortRefusal}
use Rattle.sort_answers.specs.declared.SortRefusal.TheVariants.{File, Memory, Loop}

abbrev pub sort_refusal_in : SortRefusal → Refusal
sort_refusal_in (File r) = refusal_in r
sort_refusal_in Memory = record { number = 23; place = 0 }
sort_refusal_in (Loop row) = record { number = 22; place = row }

abbrev pub sorting_refusal : Result ℕ SortRefusal → Refusal
sorting_refusal (Ok _) = no_refusal
sorting_refusal (Err r) = sort_refusal_in r

-- The rows that are answered; 0 for a refusal.
abbrev pub rows_in : Result ℕ SortRefusal → ℕ
rows_in (Ok n) = n
rows_in (Err _) = 0
