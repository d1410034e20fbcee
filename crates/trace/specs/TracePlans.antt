-- What Trace plans and makes of a fold.
-- Interface: TracePlanned, TraceMade.
-- Assumes nothing.
use Rattle.std.specs.Prelude.{ℕ, ◌≡◌, List, length, Result, Ok, Err}
use Rattle.memory.specs.Lists.{count_if}
use Rattle.netlist.specs.Rows.{Row, is_input, is_unknown}
use Rattle.questions.specs.Questions.{Refusal, no_refusal, unless_refused, first_refusal}
use Rattle.traces.specs.Trace.{trace_steps, trace_bytes}
use Rattle.traces.specs.TraceQuestions.{trace_questions}
use Rattle.traces.specs.TraceAnswer.{trace_after}
use Rattle.trace_answers.specs.TraceAnswers.{trace_refusal_in, tracing_refusal, steps_in}
use Rattle.trace_answers.specs.declared.TraceRefusal.{TraceRefusal}
use Rattle.trace.specs.declared.TracePlan.{TracePlan}

abbrev pub plan_refusal : Result TracePlan TraceRefusal → Refusal
plan_refusal (Ok p) = no_refusal
plan_refusal (Err r) = trace_refusal_in r

-- 26 to 28 are asked, and the counts and steps are those to go by.
pub record TracePlanned (original : List Row) (N : ℕ) (folded : List Row) (G k : ℕ) (choices inputs : List ℕ) (room : ℕ) (plan : Result TracePlan TraceRefusal) : Type 0 where
  pub refusal : plan_refusal plan ≡ first_refusal (trace_questions original N folded G k choices inputs room)
  pub go : (p : TracePlan) → plan ≡ Ok p → (p.kept ≡ count_if is_input folded) × ((p.unknown ≡ count_if is_unknown original) × (p.steps ≡ trace_steps N G k))

-- 26 to 28 are asked, and the trace is written if they are passed.
pub record TraceMade (original : List Row) (N : ℕ) (folded : List Row) (G k : ℕ) (choices inputs trace trace' : List ℕ) (answer : Result ℕ TraceRefusal) : Type 0 where
  pub refusal : tracing_refusal answer ≡ first_refusal (trace_questions original N folded G k choices inputs (length trace))
  pub steps : steps_in answer ≡ unless_refused (tracing_refusal answer) (trace_steps N G k) 0
  pub written : trace' ≡ unless_refused (tracing_refusal answer) (trace_after (trace_bytes original N folded (trace_steps N G k) choices inputs) trace) trace
