-- Trace's outcome by its answer: a refusal leaves the trace memory as it was, and a trace that is written has what the guarantee says.
-- Assumes nothing.
use Prim.Native.Nat.{ℕ, ◌<◌}
use mathlib.Core.Path.{◌≡◌, refl, sym, ap, ◌∙◌, subst}
use mathlib.Core.List.{List}
use mathlib.Core.Option.{Option, none, some}
use native.Mathlib.Omega.{arith}
use lib.ListN.{length, take, replicate}
use lib.Seq.{take_at}
use Rattle.std.specs.Prelude.{Result, Ok, Err}
use Rattle.memory.specs.Fields.{IsBytes}
use Rattle.netlist.specs.FileFormat.{netlist_of}
use Rattle.abstraction.specs.Fold.{FoldAnswer, fold_netlist}
use Rattle.questions.specs.Questions.{Refusal, no_refusal}
use Rattle.questions.proofs.QuestionLaws.{same_number, number-some}
use Rattle.fold_refusals.proofs.EarlyLaws.{fold-number-positive}
use Rattle.traces.specs.Trace.{trace_steps, trace_bytes, trace_length}
use Rattle.traces.specs.TraceQuestions.{trace_refusal}
use Rattle.traces.specs.TraceAnswer.{trace_answered, steps_of, trace_of, trace_after}
use Rattle.traces.specs.TraceGuarantee.{TraceGuarantee}
use Rattle.traces.proofs.TracePromise.{trace-length, trace-none, trace-guarantee}
use Rattle.trace_answers.specs.TraceAnswers.{trace_refusal_in}
use Rattle.trace_answers.specs.Traced.{TraceDone, Traced}
use Rattle.trace_answers.specs.declared.TraceRefusal.{TraceRefusal}
use Rattle.trace_answers.specs.declared.TraceRefusal.TheVariants.{Fold, Groups, Values, Room}

-- A refusal has a number.
pub trace-positive : (r : TraceRefusal) → 0 < (trace_refusal_in r).number
trace-positive (Fold r) = fold-number-positive r
trace-positive Groups = omega arith
trace-positive Values = omega arith
trace-positive Room = omega arith

module _ (file : List ℕ) (wish G k : ℕ) (choices inputs : List ℕ) (result work : ℕ) (trace : List ℕ) where
  abbrev asked : Refusal
  asked = trace_refusal file wish G k choices inputs result work (length trace)

  abbrev answered : Option FoldAnswer
  answered = trace_answered file wish G k choices inputs result work (length trace)

  abbrev after : Option FoldAnswer → List ℕ
  after o = trace_after (trace_of (netlist_of file) G k choices inputs o) trace

  pub trace-refused : (r : TraceRefusal) → trace_refusal_in r ≡ asked → TraceDone file wish G k choices inputs result work trace trace (Err r)
  trace-refused r e =
      let positive = trace-positive r in
      let none_is : answered ≡ none = rw (number-some asked (omega (arith, positive, same_number e))).0 refl in
      record {
        refusal = e;
        steps = rw none_is refl;
        written = sym (ap after none_is ∙ trace-none (netlist_of file) G k choices inputs trace);
        guarantee = λ z. absurd ((number-some (trace_refusal_in r) positive).1 z);
      }

  -- By the fold that the file has.
  pub trace-made : IsBytes file → (a : FoldAnswer) → fold_netlist (netlist_of file) wish ≡ some a → no_refusal ≡ asked → (trace' : List ℕ) → trace' ≡ after (some a) → TraceDone file wish G k choices inputs result work trace trace' (Ok (trace_steps a.phases G k))
  trace-made bytes a folds e trace' written_is =
      let T = trace_steps a.phases G k in
      let made : FoldAnswer → List ℕ = λ b. trace_bytes (netlist_of file) b.phases b.rows (trace_steps b.phases G k) choices inputs in
      let some_is : answered ≡ some a = rw (← e) folds in
      let promised = trace-guarantee file bytes wish G k choices inputs result work (length trace) (sym e) in
      let same : promised.0 ≡ a = cc (promised.1, folds) in
      let first : take (trace_length (netlist_of file) T) trace' ≡ made promised.0 =
      ap (take (trace_length (netlist_of file) T)) written_is ∙ take_at (made a) _ (trace_length (netlist_of file) T) (trace-length (netlist_of file) a.phases a.rows T choices inputs) ∙ ap made (sym same) in
      record {
        refusal = e;
        steps = sym (ap (steps_of G k) some_is);
        written = written_is ∙ sym (ap after some_is);
        guarantee = λ _. subst (TraceGuarantee file wish G k choices inputs) (sym first) promised.2;
      }

-- Result and work are cleared at the end, as r and w that are as long as they were lent.
pub traced-by : (file : List ℕ) (wish G k : ℕ) (choices inputs result r result' work w work' trace trace' : List ℕ) (answer : Result ℕ TraceRefusal) → TraceDone file wish G k choices inputs (length result) (length work) trace trace' answer
    → length r ≡ length result → length w ≡ length work → result' ≡ replicate (length r) 0 → work' ≡ replicate (length w) 0 → Traced file wish G k choices inputs result result' work work' trace trace' answer
traced-by file wish G k choices inputs result r result' work w work' trace trace' answer done long-r long-w clear-r clear-w = record {
  done = done;
  result-cleared = clear-r ∙ ap (λ (n : ℕ). replicate n 0) long-r;
  cleared = clear-w ∙ ap (λ (n : ℕ). replicate n 0) long-w;
}
