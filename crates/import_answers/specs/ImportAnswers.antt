-- Import's answers as the refusals of the change requests: number and place.
-- Interface: import_refusal_in, importing_refusal, rows_in.
-- Assumes nothing.
use Rattle.std.specs.Prelude.{ℕ, Result, Ok, Err}
use Rattle.questions.specs.Questions.{Refusal, no_refusal}
use Rattle.import_answers.specs.declared.ImportRefusal.{ImportRefusal}
use Rattle.import_answers.specs.declared.ImportRefusal.TheVariants.{Memory, Text, Rows, Loop}

abbrev pub import_refusal_in : ImportRefusal → Refusal
import_refusal_in Memory = record { number = 23; place = 0 }
import_refusal_in Text = record { number = 24; place = 0 }
import_refusal_in Rows = record { number = 25; place = 0 }
import_refusal_in (Loop row) = record { number = 22; place = row }

abbrev pub importing_refusal : Result ℕ ImportRefusal → Refusal
importing_refusal (Ok _) = no_refusal
importing_refusal (Err r) = import_refusal_in r

-- The rows that are answered; 0 for a refusal.
abbrev pub rows_in : Result ℕ ImportRefusal → ℕ
rows_in (Ok n) = n
rows_in (Err _) = 0
