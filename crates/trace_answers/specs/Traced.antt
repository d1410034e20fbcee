-- The entire outcome of Trace, for all arguments: the change requests, "a failing trace taken back".
-- Interface: TraceDone, Traced.
-- Assumes nothing.
use Rattle.std.specs.Prelude.{ℕ, ◌≡◌, List, length, take, replicate, Result}
use Rattle.netlist.specs.FileFormat.{netlist_of}
use Rattle.questions.specs.Questions.{no_refusal}
use Rattle.traces.specs.Trace.{trace_length}
use Rattle.traces.specs.TraceQuestions.{trace_refusal}
use Rattle.traces.specs.TraceAnswer.{trace_answered, steps_of, trace_of, trace_after}
use Rattle.traces.specs.TraceGuarantee.{TraceGuarantee}
use Rattle.trace_answers.specs.TraceAnswers.{tracing_refusal, steps_in}
use Rattle.trace_answers.specs.declared.TraceRefusal.{TraceRefusal}

-- What is answered and left in the trace memory: of the arguments, the lengths of result and work, the trace memory before and after, and the answer. A refusal leaves the memory as it was.
pub record TraceDone (file : List ℕ) (wish G k : ℕ) (choices inputs : List ℕ) (result work : ℕ) (trace trace' : List ℕ) (answer : Result ℕ TraceRefusal) : Type 0 where
  pub refusal : tracing_refusal answer ≡ trace_refusal file wish G k choices inputs result work (length trace)
  pub steps : steps_in answer ≡ steps_of G k (trace_answered file wish G k choices inputs result work (length trace))
  pub written : trace' ≡ trace_after (trace_of (netlist_of file) G k choices inputs (trace_answered file wish G k choices inputs result work (length trace))) trace
  -- what the trace that is left, the first bytes of the memory, does to the file given
  pub guarantee : tracing_refusal answer ≡ no_refusal → TraceGuarantee file wish G k choices inputs (take (trace_length (netlist_of file) (steps_in answer)) trace')

-- The same, with all lent memory. Result counts as work: both are all zero on every return, however long they are.
pub record Traced (file : List ℕ) (wish G k : ℕ) (choices inputs result result' work work' trace trace' : List ℕ) (answer : Result ℕ TraceRefusal) : Type 0 where
  pub done : TraceDone file wish G k choices inputs (length result) (length work) trace trace' answer
  pub result-cleared : result' ≡ replicate (length result) 0
  pub cleared : work' ≡ replicate (length work) 0
