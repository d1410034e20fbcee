-- Questions 26 to 28, asked after Fold's: the change requests, "a failing trace taken back".
-- Interface: trace_refusal; trace_questions (26 to 28).
-- Assumes nothing.
use Rattle.std.specs.Prelude.{ℕ, Bool, ◌&&◌, List, [], ◌∷◌, ltb, leb}
use Rattle.std.proofs.Math.Option.{none, some}
use Rattle.netlist.specs.Limits.{most_groups, fold_clock_entries}
use Rattle.netlist.specs.Rows.{Row}
use Rattle.netlist.specs.FileFormat.{netlist_of}
use Rattle.abstraction.specs.Fold.{fold_netlist}
use Rattle.questions.specs.Questions.{Refusal, first_refusal, question, value_lists_right, all_binary}
use Rattle.fold_questions.specs.FoldQuestions.{fold_refusal}
use Rattle.traces.specs.Trace.{trace_steps, trace_length}

abbrev pub groups_right : ℕ → ℕ → ℕ → Bool
groups_right N G k = leb 1 G && leb G most_groups && ltb k N

abbrev pub values_right : List Row → ℕ → List ℕ → List ℕ → Bool
values_right folded G choices inputs = value_lists_right folded G choices inputs && all_binary choices && all_binary inputs

-- 26 to 28, of the original and the folded netlist of N phases: G groups, phase k, the folded netlist's values, and the length of the trace memory.
abbrev pub trace_questions : List Row → ℕ → List Row → ℕ → ℕ → List ℕ → List ℕ → ℕ → List Refusal
trace_questions original N folded G k choices inputs trace =
    question 26 (groups_right N G k)
    ∷ question 27 (values_right folded G choices inputs)
    ∷ question 28 (leb (trace_length original (trace_steps N G k)) trace)
    ∷ []

-- Fold's questions first. No clock list is lent: 15 is asked as of one that is long enough, so it asks for the two others alone.
unfoldable pub trace_refusal : List ℕ → ℕ → ℕ → ℕ → List ℕ → List ℕ → ℕ → ℕ → ℕ → Refusal
trace_refusal file wish G k choices inputs result work trace =
    first_refusal
    (fold_refusal file wish result work fold_clock_entries
    ∷ elim (fold_netlist (netlist_of file) wish) [ none ↦ [] | some a ↦ trace_questions (netlist_of file) a.phases a.rows G k choices inputs trace ])
