-- What a refusal of Trace means: it is the first no of what Trace asks.
-- Assumes nothing.
use Prim.Native.Nat.{ℕ}
use mathlib.Core.Path.{◌≡◌, refl}
use mathlib.Core.Logic.{◌↔◌}
use mathlib.Core.Bool.{true}
use mathlib.Core.List.{List, []}
use mathlib.Core.Option.{Option, none, some}
use native.Mathlib.Omega.{arith}
use Rattle.memory.proofs.TestLaws.{leb-iff, ltb_iff, and-iff}
use Rattle.netlist.specs.Limits.{most_groups, fold_clock_entries}
use Rattle.netlist.specs.Rows.{Row}
use Rattle.netlist.specs.FileFormat.{netlist_of}
use Rattle.abstraction.specs.Fold.{FoldAnswer, fold_netlist}
use Rattle.questions.specs.Questions.{first_refusal}
use Rattle.questions.specs.RefusalWords.{RefusalMeans}
use Rattle.questions.proofs.PlainWords.{value_lists_right-iff, all_binary-iff}
use Rattle.questions.proofs.AskedLaws.{once-means, then-means, last-means}
use Rattle.fold_questions.proofs.FoldRefusalMeaning.{fold-refusal-means}
use Rattle.traces.specs.Trace.{trace_steps, trace_length}
use Rattle.traces.specs.TraceQuestions.{groups_right, values_right, trace_questions, trace_refusal}
use Rattle.traces.specs.TraceRefusalWords.{GroupWords, ValueWords, asked_of_trace, asked_by_trace}

pub groups_right-iff : (N G k : ℕ) → (groups_right N G k ≡ true) ↔ GroupWords N G k
groups_right-iff N G k = and-iff _ _ (and-iff _ _ (leb-iff 1 G) (leb-iff G most_groups)) (ltb_iff k N)

values_right-iff : (folded : List Row) (G : ℕ) (choices inputs : List ℕ) → (values_right folded G choices inputs ≡ true) ↔ ValueWords folded G choices inputs
values_right-iff folded G choices inputs = and-iff _ _ (and-iff _ _ (value_lists_right-iff folded G choices inputs) (all_binary-iff choices)) (all_binary-iff inputs)

pub trace-refusal-means : (file : List ℕ) (wish G k : ℕ) (choices inputs : List ℕ) (result work trace : ℕ) → RefusalMeans (trace_refusal file wish G k choices inputs result work trace) (asked_by_trace file wish G k choices inputs result work trace)
unfolding trace_refusal asked_by_trace
trace-refusal-means file wish G k choices inputs result work trace = then-means (fold-refusal-means file wish result work fold_clock_entries) (of-fold (fold_netlist (netlist_of file) wish))
  where
    original : List Row
    original = netlist_of file

    of-fold : (o : Option FoldAnswer) → RefusalMeans (first_refusal (elim o [ none ↦ [] | some a ↦ trace_questions original a.phases a.rows G k choices inputs trace ])) (elim o [ none ↦ [] | some a ↦ asked_of_trace original a.phases a.rows G k choices inputs trace ])
    of-fold none = record { refused = λ h. absurd (omega arith); passed = λ _. tt; no_place = λ _. refl }
    of-fold (some a) =
        then-means (once-means 25 (groups_right-iff a.phases G k))
        (then-means (once-means 26 (values_right-iff a.rows G choices inputs))
        (last-means (once-means 27 (leb-iff (trace_length original (trace_steps a.phases G k)) trace))))
