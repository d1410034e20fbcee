-- What Trace answers and leaves in the trace memory: the change requests, "a failing trace taken back".
-- Interface: trace_answered, steps_of, trace_of, trace_after.
-- Assumes nothing.
use Rattle.std.specs.Prelude.{ℕ, List, [], ◌++◌, length, drop}
use Rattle.std.proofs.Math.Option.{Option, none, some}
use Rattle.netlist.specs.Rows.{Row}
use Rattle.netlist.specs.FileFormat.{netlist_of}
use Rattle.abstraction.specs.Fold.{FoldAnswer, fold_netlist}
use Rattle.questions.specs.Questions.{unless_refused}
use Rattle.traces.specs.Trace.{trace_steps, trace_bytes}
use Rattle.traces.specs.TraceQuestions.{trace_refusal}

-- The fold by which values are taken back, or none where something is refused: the arguments, and the lengths of result, work and trace memory.
abbrev pub trace_answered : List ℕ → ℕ → ℕ → ℕ → List ℕ → List ℕ → ℕ → ℕ → ℕ → Option FoldAnswer
trace_answered file wish G k choices inputs result work trace = unless_refused (trace_refusal file wish G k choices inputs result work trace) (fold_netlist (netlist_of file) wish) none

-- T, and the trace; 0 and no bytes for a refusal.
abbrev pub steps_of : ℕ → ℕ → Option FoldAnswer → ℕ
steps_of G k none = 0
steps_of G k (some a) = trace_steps a.phases G k

abbrev pub trace_of : List Row → ℕ → ℕ → List ℕ → List ℕ → Option FoldAnswer → List ℕ
trace_of original G k choices inputs none = []
trace_of original G k choices inputs (some a) = trace_bytes original a.phases a.rows (trace_steps a.phases G k) choices inputs

-- The trace memory afterwards: the trace, and the unchanged rest.
abbrev pub trace_after : List ℕ → List ℕ → List ℕ
trace_after bytes old = bytes ++ drop (length bytes) old
