-- Trace's answers as the refusals of the scope paper and the change requests: number and place.
-- Interface: trace_refusal_in, tracing_refusal, steps_in.
-- Assumes nothing.
use Rattle.std.specs.Prelude.{ℕ, Result, Ok, Err}
use Rattle.questions.specs.Questions.{Refusal, no_refusal}
use Rattle.fold_refusals.specs.FoldRefusals.{fold_refusal_in}
use Rattle.trace_answers.specs.declared.TraceRefusal.{TraceRefusal}
use Rattle.trace_answers.specs.declared.TraceRefusal.TheVariants.{Fold, Groups, Values, Room}

abbrev pub trace_refusal_in : TraceRefusal → Refusal
trace_refusal_in (Fold r) = fold_refusal_in r
trace_refusal_in Groups = record { number = 26; place = 0 }
trace_refusal_in Values = record { number = 27; place = 0 }
trace_refusal_in Room = record { number = 28; place = 0 }

abbrev pub tracing_refusal : Result ℕ TraceRefusal → Refusal
tracing_refusal (Ok t) = no_refusal
tracing_refusal (Err r) = trace_refusal_in r

-- The steps that are answered; 0 for a refusal.
abbrev pub steps_in : Result ℕ TraceRefusal → ℕ
steps_in (Ok t) = t
steps_in (Err r) = 0
