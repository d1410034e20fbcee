-- What the values and the memory are once 26 to 28 are passed, and the trace by them.
-- Assumes nothing.
use Prim.Native.Nat.{ℕ, suc, ◌*◌, ◌≤◌, ◌/◌}
use mathlib.Core.Path.{◌≡◌, refl, sym, ap, ◌∙◌}
use mathlib.Core.Bool.{true, ◌&&◌}
use mathlib.Core.List.{List}
use native.Mathlib.Omega.{arith}
use native.Mathlib.Nat.{mul-le-mul_right, suc-mul}
use lib.ListN.{length}
use borrow.Author.Tests.{leb-true}
use Rattle.std.specs.Prelude.{Result, Ok, Err}
use Rattle.memory.specs.Lists.{count_if}
use Rattle.memory.proofs.TestLaws.{and-true}
use Rattle.netlist.specs.Rows.{Row, is_input}
use Rattle.netlist.specs.FileFormat.{netlist_of}
use Rattle.questions.specs.Questions.{no_refusal, first_refusal, value_lists_right, all_binary}
use Rattle.questions.proofs.QuestionLaws.{all_none, number-none, number-some, question-none}
use Rattle.questions.proofs.PlainWords.{value_lists_right-iff}
use Rattle.traces.specs.Trace.{trace_steps, trace_bytes, trace_length}
use Rattle.traces.specs.TraceQuestions.{trace_questions}
use Rattle.traces.specs.TraceAnswer.{trace_after}
use Rattle.trace_values.specs.Pairs.{FoldedPair, TraceGiven}
use Rattle.trace_values.proofs.KeptLaws.{few-labels}
use Rattle.trace_values.proofs.TakenLaws.{group_of}
use Rattle.trace_answers.specs.TraceAnswers.{trace_refusal_in}
use Rattle.trace_answers.specs.declared.TraceRefusal.{TraceRefusal}
use Rattle.trace_answers.proofs.TracedLaws.{trace-positive}
use Rattle.trace.specs.TracePlans.{plan_refusal, TracePlanned, TraceMade}
use Rattle.trace.specs.declared.TracePlan.{TracePlan}
use Rattle.trace.proofs.PlanLaws.{group-some, phase-below, steps-few}

module _ (file folded : List ℕ) (n m N : ℕ) (F : FoldedPair file folded n m N) (G k : ℕ) (choices inputs trace : List ℕ) (plan : Result TracePlan TraceRefusal) (P : TracePlanned (netlist_of file) N (netlist_of folded) G k choices inputs (length trace) plan) where
  abbrev original : List Row
  original = netlist_of file

  abbrev kept-rows : List Row
  kept-rows = netlist_of folded

  pub made-stopped : (r : TraceRefusal) → plan ≡ Err r → TraceMade original N kept-rows G k choices inputs trace trace (Err r)
  made-stopped r e =
      let some = (number-some (trace_refusal_in r) (trace-positive r)).0 in
      record { refusal = sym (ap plan_refusal e) ∙ P.refusal; steps = rw some refl; written = rw some refl }

  module _ (p : TracePlan) (e : plan ≡ Ok p) where
    passed : first_refusal (trace_questions original N kept-rows G k choices inputs (length trace)) ≡ no_refusal
    passed = sym P.refusal ∙ ap plan_refusal e

    pub given_by : TraceGiven original kept-rows N p.kept p.steps choices inputs trace p.unknown
    given_by =
        let told = P.go p e in
        let yes = all_none (trace_questions original N kept-rows G k choices inputs (length trace)) (number-none _ passed) in
        let groups = question-none 25 _ yes.0 in
        let values = and-true (value_lists_right kept-rows G choices inputs && all_binary choices) (all_binary inputs) (question-none 26 _ yes.1.0) in
        let lists = and-true (value_lists_right kept-rows G choices inputs) (all_binary choices) values.0 in
        let lengths = (value_lists_right-iff kept-rows G choices inputs).0 lists.0 in
        let room = leb-true (trace_length original (trace_steps N G k)) (length trace) (question-none 27 _ yes.1.1.0) in
        let bytes : p.steps * count_if is_input original ≡ trace_steps N G k * count_if is_input original = ap (λ (t : ℕ). t * count_if is_input original) told.1.1 in
        record {
          choices-given = record { count = lengths.0; binary = lists.1; room = omega (arith, room) };
          inputs-given = record {
            kept-is = told.0;
            groups = λ t h.
                let g : suc (t / N) ≤ G = group_of N G k t (group-some N G k groups) (phase-below N G k groups) (omega (arith, h, told.1.1)) in
                omega (arith, mul-le-mul_right p.kept g, suc-mul (t / N) p.kept, lengths.1, ap (λ (c : ℕ). G * c) told.0);
            binary = values.1;
            room = omega (arith, room, bytes, told.1.0);
            few-steps = omega (arith, told.1.1, steps-few N G k groups F.phases.1);
            few-before = omega (arith, told.1.0, few-labels file folded n m N F true);
          };
          before = told.1.0;
        }

    pub made-done : (trace' : List ℕ) → trace' ≡ trace_after (trace_bytes original N kept-rows p.steps choices inputs) trace → TraceMade original N kept-rows G k choices inputs trace trace' (Ok p.steps)
    made-done trace' w =
        let T = (P.go p e).1.1 in
        record { refusal = sym passed; steps = T; written = w ∙ ap (λ (t : ℕ). trace_after (trace_bytes original N kept-rows t choices inputs) trace) T }
