-- Questions 26 to 28 as the code asks them, and what is given to a trace that passes them.
-- Assumes nothing.
use Prim.Native.Nat.{ℕ, ◌+◌, ◌-◌, ◌*◌, ◌<◌, ◌≤◌, ◌^◌}
use mathlib.Core.Path.{◌≡◌, refl, sym, ◌∙◌}
use mathlib.Core.Bool.{Bool, true, false, ◌&&◌}
use mathlib.Core.List.{List, [], ◌∷◌}
use native.Mathlib.Omega.{arith}
use native.Mathlib.Nat.{mul-le-mul}
use lib.Dec.{eqb, leb}
use lib.ListN.{length}
use borrow.Author.Tests.{le-leb, lt-leb}
use Rattle.std.specs.Prelude.{Result, Ok, Err}
use Rattle.memory.specs.Lists.{count_if}
use Rattle.netlist.specs.Limits.{most_groups, most_phases, most_steps}
use Rattle.netlist.specs.Rows.{Row, is_input, is_unknown}
use Rattle.questions.specs.Questions.{Refusal, first_refusal, question, all_binary}
use Rattle.questions.proofs.QuestionLaws.{list-yes, list-no}
use Rattle.traces.specs.Trace.{trace_steps, trace_length}
use Rattle.traces.specs.TraceQuestions.{groups_right, values_right, trace_questions}
use Rattle.traces.proofs.TraceRefusalMeaning.{groups_right-iff}
use Rattle.run.proofs.PlanLaws.{product-fits}
use Rattle.trace_values.specs.Pairs.{FoldedPair}
use Rattle.trace_answers.specs.TraceAnswers.{trace_refusal_in}
use Rattle.trace_answers.specs.declared.TraceRefusal.{TraceRefusal}
use Rattle.trace_answers.specs.declared.TraceRefusal.TheVariants.{Groups, Values, Room}
use Rattle.trace.specs.TracePlans.{TracePlanned}
use Rattle.trace.specs.declared.TracePlan.{TracePlan}

-- ---- the steps are no large number

module _ (N G k : ℕ) (right : groups_right N G k ≡ true) where
  pub group-some : 1 ≤ G
  group-some = ((groups_right-iff N G k).0 right).0.0

  pub group-few : G ≤ most_groups
  group-few = ((groups_right-iff N G k).0 right).0.1

  pub phase-below : k < N
  phase-below = ((groups_right-iff N G k).0 right).1

  module _ (few : N ≤ most_phases) where
    product : (G - 1) * N ≤ 4088
    product = let m : G - 1 ≤ 511 = omega (arith, group-few) in omega (arith, mul-le-mul m few)

    pub steps-few : trace_steps N G k ≤ most_steps
    steps-few = omega (arith, product, phase-below)

    pub steps-mul : (G - 1) * N < 2 ^ 32
    steps-mul = omega (arith, product)

    pub steps-add : (G - 1) * N + k < 2 ^ 32
    steps-add = omega (arith, product, phase-below)

-- ---- nor are the bytes

module _ (file folded : List ℕ) (n m N : ℕ) (F : FoldedPair file folded n m N) (G k : ℕ) (groups : Bool) (told : groups ≡ groups_right N G k) (yes : groups ≡ true) where
  right : groups_right N G k ≡ true
  right = sym told ∙ yes

  pub steps-asked : (groups_right N G k ≡ true) × (N ≤ most_phases)
  steps-asked = (right, F.phases.1)

  pub values-fit : (kept : ℕ) → kept ≤ m → G * kept < 2 ^ 64
  values-fit kept h = product-fits G kept (omega (arith, group-few N G k right)) (omega (arith, F.kept.few))

  module _ (T each : ℕ) (steps-are : T ≡ trace_steps N G k) (few : each ≤ n) where
    pub inputs-fit : T * each < 2 ^ 64
    inputs-fit = product-fits T each (omega (arith, steps-are, steps-few N G k right F.phases.1)) (omega (arith, F.original.few))

    pub size_fits : (unknown : ℕ) → unknown ≤ n → unknown + T * each < 2 ^ 64
    size_fits unknown h =
        let t : T ≤ most_steps = omega (arith, steps-are, steps-few N G k right F.phases.1) in
        omega (arith, mul-le-mul t few, F.small)

-- ---- plans

module _ (original : List Row) (N : ℕ) (folded : List Row) (G k : ℕ) (choices inputs : List ℕ) (room : ℕ) where
  -- What is asked from 28 and 27 on.
  abbrev from28 : List Refusal
  from28 = question 28 (leb (trace_length original (trace_steps N G k)) room) ∷ []

  abbrev from27 : List Refusal
  from27 = question 27 (values_right folded G choices inputs) ∷ from28

  abbrev asked : Refusal
  asked = first_refusal (trace_questions original N folded G k choices inputs room)

  abbrev Planned : Result TracePlan TraceRefusal → Type 0
  Planned plan = TracePlanned original N folded G k choices inputs room plan

  stopped : (r : TraceRefusal) → trace_refusal_in r ≡ asked → Planned (Err r)
  stopped r h = record { refusal = h; go = λ p e. cc }

  module _ (groups : Bool) (groups-told : groups ≡ groups_right N G k) where
    pub stops-26 : groups ≡ false → Planned (Err Groups)
    stops-26 h = stopped Groups (sym (list-no 25 (groups_right N G k) from27 (sym groups-told ∙ h)))

    pub groups-right : groups ≡ true → groups_right N G k ≡ true
    groups-right h = sym groups-told ∙ h

    module _ (groups-yes : groups ≡ true) (values : Bool) (kept-unknown kept : ℕ) (kept-unknown-is : kept-unknown ≡ count_if is_unknown folded) (kept-is : kept ≡ count_if is_input folded)
        (values-told : values ≡ (eqb (length choices) kept-unknown && eqb (length inputs) (G * kept)) && all_binary choices && all_binary inputs) where
      values-are : values ≡ values_right folded G choices inputs
      values-are = values-told ∙ rw (kept-unknown-is, kept-is) refl

      after-26 : asked ≡ first_refusal from27
      after-26 = list-yes 26 (groups_right N G k) from27 (groups-right groups-yes)

      pub stops-27 : values ≡ false → Planned (Err Values)
      stops-27 h = stopped Values (sym (after-26 ∙ list-no 26 (values_right folded G choices inputs) from28 (sym values-are ∙ h)))

      module _ (values-yes : values ≡ true) (unknown each steps : ℕ) (unknown-is : unknown ≡ count_if is_unknown original) (each-is : each ≡ count_if is_input original) (steps-are : steps ≡ trace_steps N G k) where
        size_is : unknown + steps * each ≡ trace_length original (trace_steps N G k)
        size_is = rw (unknown-is, each-is, steps-are) refl

        after-27 : asked ≡ first_refusal from28
        after-27 = after-26 ∙ list-yes 27 (values_right folded G choices inputs) from28 (sym values-are ∙ values-yes)

        pub stops-28 : room < unknown + steps * each → Planned (Err Room)
        stops-28 h = stopped Room (sym (after-27 ∙ list-no 27 (leb (trace_length original (trace_steps N G k)) room) [] (lt-leb (trace_length original (trace_steps N G k)) room (omega (arith, size_is)))))

        pub goes : unknown + steps * each ≤ room → Planned (Ok (record { kept = kept; unknown = unknown; steps = steps }))
        goes h = record {
          refusal = sym (after-27 ∙ list-yes 28 (leb (trace_length original (trace_steps N G k)) room) [] (le-leb (trace_length original (trace_steps N G k)) room (omega (arith, size_is))));
          go = λ p e. (cc, (cc, cc));
        }
