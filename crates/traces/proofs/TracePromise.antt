-- The guarantee of a trace that is taken back: the original is fed as the folded netlist is, so demand 3 says what it shows.
-- Assumes nothing.
use Prim.Native.Nat.{ℕ, ◌+◌, ◌-◌, ◌*◌, ◌<◌, ◌≤◌, ◌/◌, ◌%◌}
use mathlib.Core.Path.{◌≡◌, refl, sym, ap, ◌∙◌}
use mathlib.Core.Bool.{true, false, ◌&&◌}
use mathlib.Core.List.{List, [], ◌∷◌, ◌++◌}
use mathlib.Core.Option.{none, some}
use native.Mathlib.Omega.{arith}
use native.Mathlib.Nat.{mul-le-mul}
use lib.Arith.{digits_div, digits_mod}
use lib.Dec.{leb}
use lib.ListN.{length, take, drop, length-append}
use lib.Seq.{take-append_seam, drop-append_seam, drop_at}
use borrow.Author.Tests.{eq-eqb}
use Rattle.memory.specs.Lists.{count_if}
use Rattle.memory.specs.Fields.{byte_at, IsBytes}
use Rattle.memory.proofs.TestLaws.{leb-iff, fails}
use Rattle.memory.proofs.ListLaws.{all_below-of}
use Rattle.netlist.specs.Limits.{most_steps, most_phases, most_groups, fold_clock_entries}
use Rattle.netlist.specs.WellFormed.{NamesUnique}
use Rattle.netlist.specs.Rows.{Row, is_input, is_unknown, is_named, is_unknown_named, has_row, HasInput, HasUnknown, HasOutput}
use Rattle.netlist.specs.Simulation.{RunValues, output_shows}
use Rattle.netlist.specs.FileFormat.{netlist_of}
use Rattle.netlist.specs.RunLayout.{values_from_bytes, choice_bytes, input_bytes}
use Rattle.netlist.proofs.LayoutLaws.{Binary, choice-back, input_back, choices-length, inputs-length, choices-binary, inputs-binary}
use Rattle.abstraction.specs.Fold.{FoldAnswer, fold_netlist}
use Rattle.abstraction.specs.SameBehaviour.{FedAlike, SameBehaviour, StandsFor}
use Rattle.questions.specs.Questions.{no_refusal, names_earlier, file_refusal, step_questions, run_refusal, value_lists_right, all_binary, run_memory_right}
use Rattle.questions.proofs.QuestionLaws.{list-none, all_none, all_yes, ◌then◌, number-none, question-none, question-of}
use Rattle.questions.proofs.AcceptedFiles.{file-yes, file-checked}
use Rattle.fold_questions.specs.FoldQuestions.{fold_refusal}
use Rattle.fold_questions.proofs.FoldAccepted.{fold-right, fold-yes}
use Rattle.guarantees.proofs.FoldPromise.{fold-guarantee}
use Rattle.traces.specs.Trace.{trace_steps, traced_values, trace_bytes, trace_length}
use Rattle.traces.specs.TraceQuestions.{trace_questions, trace_refusal}
use Rattle.traces.specs.TraceAnswer.{trace_of, trace_after}
use Rattle.traces.specs.TraceGuarantee.{trace_choices, trace_inputs, trace_run, TraceKeeps, TraceGuarantee}
use Rattle.traces.proofs.TraceRefusalMeaning.{groups_right-iff}

binary-all : (vs : List ℕ) → Binary vs → all_binary vs ≡ true
binary-all vs h = all_below-of (length vs) (λ i. leb (byte_at vs i) 1) (λ i _. (leb-iff (byte_at vs i) 1).1 (h i))

-- Behind the trace stands what stood behind as many bytes of the old memory.
pub trace-rest : (bytes old : List ℕ) → drop (length bytes) (trace_after bytes old) ≡ drop (length bytes) old
trace-rest bytes old = drop_at bytes (drop (length bytes) old) (length bytes) refl

-- A refusal leaves the memory as it was.
pub trace-none : (original : List Row) (G k : ℕ) (choices inputs old : List ℕ) → trace_after (trace_of original G k choices inputs none) old ≡ old
trace-none original G k choices inputs old = refl

module _ (N : ℕ) (folded : List Row) (groups : RunValues) where
  kept-choice : (l : ℕ) → HasUnknown folded l → (traced_values N folded groups).choices l ≡ groups.choices l
  unfolding traced_values
  kept-choice l has = rw has

  kept-input : (g l k : ℕ) → k < N → HasInput folded l k → (traced_values N folded groups).inputs (g * N + k) l 0 ≡ groups.inputs g l k
  unfolding traced_values
  kept-input g l k b has = rw (digits_mod g b, digits_div g b, has)

  -- What is not kept is 0.
  other-choice : (l : ℕ) → ¬ HasUnknown folded l → (traced_values N folded groups).choices l ≡ false
  unfolding traced_values
  other-choice l n = rw (fails (has_row (is_unknown_named l) folded) n)

  other-input : (t l : ℕ) → ¬ HasInput folded l (t % N) → (traced_values N folded groups).inputs t l 0 ≡ false
  unfolding traced_values
  other-input t l n = rw (fails (has_row (is_named 1 l (t % N)) folded) n)

module _ (original : List Row) (unique : NamesUnique original) (N : ℕ) (folded : List Row) (stands : StandsFor original N folded) (behaves : SameBehaviour original N folded) (choices inputs : List ℕ) where
  abbrev groups : RunValues
  groups = values_from_bytes folded choices inputs

  abbrev run : RunValues
  run = traced_values N folded groups

  module _ (T : ℕ) where
    abbrev trace : List ℕ
    trace = trace_bytes original N folded T choices inputs

    choices-are : trace_choices original trace ≡ choice_bytes original run
    unfolding trace_bytes
    choices-are = ap (λ (n : ℕ). take n (choice_bytes original run ++ input_bytes original run T)) (sym (choices-length original run)) ∙ take-append_seam (choice_bytes original run) (input_bytes original run T)

    inputs_are : trace_inputs original trace ≡ input_bytes original run T
    unfolding trace_bytes
    inputs_are = ap (λ (n : ℕ). drop n (choice_bytes original run ++ input_bytes original run T)) (sym (choices-length original run)) ∙ drop-append_seam (choice_bytes original run) (input_bytes original run T)

    -- The original is fed as the folded netlist is.
    fed : FedAlike N folded T (values_from_bytes original (choice_bytes original run) (input_bytes original run T)) groups
    fed = record {
      choices = λ l has. sym (choice-back original unique run T l (stands.unknowns l has) ∙ kept-choice N folded groups l has);
      inputs = λ g l k has b.
          let s = stands.inputs l k has in
          sym (input_back original unique run T (g * N + k) l 0 b s.0 ∙ kept-input N folded groups g l k s.1 has);
    }

    shows_alike : (t l : ℕ) → t < T → HasOutput original l 0 → output_shows original (trace_run original trace) l 0 t ≡ output_shows folded groups l (t % N) (t / N)
    shows_alike t l b has = rw (choices-are, inputs_are) (sym (behaves.outputs T _ groups fed t l b has))

  module _ (G k : ℕ) (some-group : 1 ≤ G) (phase : k < N) where
    abbrev steps : ℕ
    steps = trace_steps N G k

    last_step : steps - 1 ≡ (G - 1) * N + k
    last_step = omega arith

    pub trace-keeps : TraceKeeps original N folded G k choices inputs (trace steps)
    trace-keeps = record {
      kept = rw (choices-are steps, inputs_are steps) (fed steps);
      other-choices = λ l has n. rw (choices-are steps, inputs_are steps) (choice-back original unique run steps l has ∙ other-choice N folded groups l n);
      other-inputs = λ t l b has n. rw (choices-are steps, inputs_are steps) (input_back original unique run steps t l 0 b has ∙ other-input N folded groups t l n);
      shows = shows_alike steps;
      same-outputs = λ l. (λ has. behaves.present l k has phase, λ has. (stands.outputs l k has).0);
      last = λ l has. shows_alike steps (steps - 1) l (omega arith) has ∙ ap (λ (t : ℕ). output_shows folded groups l (t % N) (t / N)) last_step ∙ rw (digits_mod (G - 1) phase, digits_div (G - 1) phase);
    }

    -- Run's questions 17 to 19.
    few-steps : G ≤ most_groups → N ≤ most_phases → steps ≤ most_steps
    few-steps few n = let m : G - 1 ≤ most_groups - 1 = omega arith in omega (arith, mul-le-mul m n)

    lists-right : value_lists_right original steps (trace_choices original (trace steps)) (trace_inputs original (trace steps)) ≡ true
    lists-right =
        let c = choices-length original run in
        let i = inputs-length original run steps in
        rw (choices-are steps, inputs_are steps, eq-eqb (length (choice_bytes original run)) (count_if is_unknown original) c, eq-eqb (length (input_bytes original run steps)) (steps * count_if is_input original) i)

    values-right : all_binary (trace_choices original (trace steps)) && all_binary (trace_inputs original (trace steps)) ≡ true
    values-right = rw (choices-are steps, inputs_are steps, binary-all (choice_bytes original run) (choices-binary original run), binary-all (input_bytes original run steps) (inputs-binary original run steps))

-- The trace has as many bytes as question 28 asks for.
pub trace-length : (original : List Row) (N : ℕ) (folded : List Row) (T : ℕ) (choices inputs : List ℕ) → length (trace_bytes original N folded T choices inputs) ≡ trace_length original T
unfolding trace_bytes
trace-length original N folded T choices inputs =
    let run = traced_values N folded (values_from_bytes folded choices inputs) in
    omega (arith, length-append (choice_bytes original run) (input_bytes original run T), choices-length original run, inputs-length original run T)

run-takes : (file : List ℕ) → file_refusal file ≡ no_refusal → (T : ℕ) (choices inputs : List ℕ) → T ≤ most_steps → value_lists_right (netlist_of file) T choices inputs ≡ true → all_binary choices && all_binary inputs ≡ true → (result work : ℕ) → run_memory_right (netlist_of file) T result work ≡ true → run_refusal file T choices inputs result work ≡ no_refusal
unfolding run_refusal
run-takes file accepted T choices inputs few lists values result work room =
    all_yes (file_refusal file ∷ step_questions (netlist_of file) T choices inputs result work)
    (number-none _ accepted
    then question-of 17 _ ((leb-iff T most_steps).1 few)
    then question-of 18 _ lists
    then question-of 19 _ values
    then question-of 20 _ room
    then tt)

-- From the bytes: where nothing is refused, the trace has the guarantee, by the fold that the file has.
pub trace-guarantee : (file : List ℕ) → IsBytes file → (wish G k : ℕ) (choices inputs : List ℕ) (result work trace : ℕ) → trace_refusal file wish G k choices inputs result work trace ≡ no_refusal
    → (a : FoldAnswer) × (fold_netlist (netlist_of file) wish ≡ some a) × TraceGuarantee file wish G k choices inputs (trace_bytes (netlist_of file) a.phases a.rows (trace_steps a.phases G k) choices inputs)
unfolding trace_refusal
trace-guarantee file bytes wish G k choices inputs result work trace h =
    let original = netlist_of file in
    let p = list-none (fold_refusal file wish result work fold_clock_entries) (elim (fold_netlist original wish) [ none ↦ [] | some a ↦ trace_questions original a.phases a.rows G k choices inputs trace ]) (number-none _ h) in
    let F = fold-right file wish result work fold_clock_entries p.0 in
    let unique = (file-checked file F.file-right).unique in
    let Γ = fold-guarantee file bytes wish result work fold_clock_entries (fold-yes file wish result work fold_clock_entries F) in
    let a = Γ.answer in
    let q = all_none (trace_questions original a.phases a.rows G k choices inputs trace) (rw Γ.folds at p.1) in
    let g = (groups_right-iff a.phases G k).0 (question-none 25 _ q.0) in
    let T = trace_steps a.phases G k in (
      a,
      Γ.folds,
      record {
        answer = a;
        folds = Γ.folds;
        traced = refl;
        run-takes = run-takes file (file-yes names_earlier file F.file-right) T _ _ (few-steps original unique a.phases a.rows Γ.stands Γ.behaves choices inputs G k g.0.0 g.1 g.0.1 Γ.phases.1) (lists-right original unique a.phases a.rows Γ.stands Γ.behaves choices inputs G k g.0.0 g.1) (values-right original unique a.phases a.rows Γ.stands Γ.behaves choices inputs G k g.0.0 g.1);
        keeps = trace-keeps original unique a.phases a.rows Γ.stands Γ.behaves choices inputs G k g.0.0 g.1;
      },
    )
