-- What holds of a trace that is taken back: the change requests, "a failing trace taken back".
-- Interface: TraceKeeps, TraceGuarantee.
-- Assumes nothing.
use Rattle.std.specs.Prelude.{ℕ, ◌-◌, ◌<◌, ◌/◌, ◌%◌, ◌≡◌, ◌↔◌, true, false, List, take, drop}
use Rattle.std.proofs.Math.Option.{some}
use Rattle.memory.specs.Lists.{count_if}
use Rattle.netlist.specs.Rows.{Row, is_unknown, HasInput, HasUnknown, HasOutput}
use Rattle.netlist.specs.Simulation.{RunValues, output_shows}
use Rattle.netlist.specs.FileFormat.{netlist_of}
use Rattle.netlist.specs.RunLayout.{values_from_bytes}
use Rattle.abstraction.specs.Fold.{FoldAnswer, fold_netlist}
use Rattle.abstraction.specs.SameBehaviour.{FedAlike}
use Rattle.questions.specs.Questions.{no_refusal, run_memory_right, run_refusal}
use Rattle.traces.specs.Trace.{trace_steps, trace_bytes}

-- The two lists of a trace, as Run takes them, and the values that they give.
abbrev pub trace_choices : List Row → List ℕ → List ℕ
trace_choices original trace = take (count_if is_unknown original) trace

abbrev pub trace_inputs : List Row → List ℕ → List ℕ
trace_inputs original trace = drop (count_if is_unknown original) trace

abbrev pub trace_run : List Row → List ℕ → RunValues
trace_run original trace = values_from_bytes original (trace_choices original trace) (trace_inputs original trace)

-- The original's run of T steps on the trace, beside the run of the folded netlist of N phases on the values given, over G groups up to phase k of the last.
pub record TraceKeeps (original : List Row) (N : ℕ) (folded : List Row) (G k : ℕ) (choices inputs trace : List ℕ) : Type 0 where
  -- what is kept has the value given, and what is not kept is 0
  pub kept : FedAlike N folded (trace_steps N G k) (trace_run original trace) (values_from_bytes folded choices inputs)
  pub other-choices : (l : ℕ) → HasUnknown original l → ¬ HasUnknown folded l → (trace_run original trace).choices l ≡ false
  pub other-inputs : (t l : ℕ) → t < trace_steps N G k → HasInput original l 0 → ¬ HasInput folded l (t % N) → (trace_run original trace).inputs t l 0 ≡ false
  -- at every step t below T the original shows what the folded netlist shows in phase t mod N of group t div N
  pub shows : (t l : ℕ) → t < trace_steps N G k → HasOutput original l 0 → output_shows original (trace_run original trace) l 0 t ≡ output_shows folded (values_from_bytes folded choices inputs) l (t % N) (t / N)
  -- so, output for output, at step T - 1 what phase k of the last group shows; by question 13 the original's outputs and inputs all have phase 0
  pub same-outputs : (l : ℕ) → HasOutput original l 0 ↔ HasOutput folded l k
  pub last : (l : ℕ) → HasOutput original l 0 → output_shows original (trace_run original trace) l 0 (trace_steps N G k - 1) ≡ output_shows folded (values_from_bytes folded choices inputs) l k (G - 1)

-- Of a file, the arguments and the trace that is left.
pub record TraceGuarantee (file : List ℕ) (wish G k : ℕ) (choices inputs trace : List ℕ) : Type 0 where
  -- the fold that the values are of, and the trace by it
  pub answer : FoldAnswer
  pub folds : fold_netlist (netlist_of file) wish ≡ some answer
  pub traced : trace ≡ trace_bytes (netlist_of file) answer.phases answer.rows (trace_steps answer.phases G k) choices inputs
  -- Run takes it for T steps, if Run is lent enough
  pub run-takes : (result work : ℕ) → run_memory_right (netlist_of file) (trace_steps answer.phases G k) result work ≡ true → run_refusal file (trace_steps answer.phases G k) (trace_choices (netlist_of file) trace) (trace_inputs (netlist_of file) trace) result work ≡ no_refusal
  pub keeps : TraceKeeps (netlist_of file) answer.phases answer.rows G k choices inputs trace
