-- What Trace asks, in words and in order: all that Fold asks but a clock list, then 26 to 28, of the fold. `RefusalWords` says what a refusal means.
-- Interface: GroupWords (26), ValueWords (27), TraceRoom (28), asked_by_trace.
-- Assumes nothing.
use Rattle.std.specs.Prelude.{ℕ, ◌<◌, ◌≤◌, List, [], ◌∷◌, ◌++◌}
use Rattle.std.proofs.Math.Option.{none, some}
use Rattle.netlist.specs.Limits.{most_groups, fold_clock_entries}
use Rattle.netlist.specs.Rows.{Row}
use Rattle.netlist.specs.FileFormat.{netlist_of}
use Rattle.abstraction.specs.Fold.{fold_netlist}
use Rattle.questions.specs.QuestionWords.{ListsWords, BinaryWords}
use Rattle.questions.specs.RefusalWords.{Asked, ask}
use Rattle.fold_questions.specs.FoldRefusalWords.{asked_by_fold}
use Rattle.traces.specs.Trace.{trace_steps, trace_length}

-- 26: 1 to 512 groups, and a phase below N.
abbrev pub GroupWords : ℕ → ℕ → ℕ → Type 0
GroupWords N G k = ((1 ≤ G) × (G ≤ most_groups)) × (k < N)

-- 27: the lists have a value for each X register of the folded netlist, and G times one for each of its inputs; each value is 0 or 1.
abbrev pub ValueWords : List Row → ℕ → List ℕ → List ℕ → Type 0
ValueWords folded G choices inputs = (ListsWords folded G choices inputs × BinaryWords choices) × BinaryWords inputs

-- 28: the trace memory holds a byte for each X register of the original, and T times one for each of its inputs.
abbrev pub TraceRoom : List Row → ℕ → ℕ → Type 0
TraceRoom original T trace = trace_length original T ≤ trace

-- 26 to 28, of the original and the folded netlist of N phases.
abbrev pub asked_of_trace : List Row → ℕ → List Row → ℕ → ℕ → List ℕ → List ℕ → ℕ → List Asked
asked_of_trace original N folded G k choices inputs trace =
    ask 26 0 (GroupWords N G k)
    ∷ ask 27 0 (ValueWords folded G choices inputs)
    ∷ ask 28 0 (TraceRoom original (trace_steps N G k) trace)
    ∷ []

-- Fold's first; where they are passed there is a fold.
unfoldable pub asked_by_trace : List ℕ → ℕ → ℕ → ℕ → List ℕ → List ℕ → ℕ → ℕ → ℕ → List Asked
asked_by_trace file wish G k choices inputs result work trace =
    asked_by_fold file wish result work fold_clock_entries
    ++ (elim (fold_netlist (netlist_of file) wish) [ none ↦ [] | some a ↦ asked_of_trace (netlist_of file) a.phases a.rows G k choices inputs trace ])
