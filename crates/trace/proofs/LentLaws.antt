-- The file that Fold leaves beside the file given, and Trace's outcome by both.
-- Assumes nothing.
use Prim.Native.Nat.{ℕ, ◌-◌, ◌*◌, ◌≤◌}
use mathlib.Core.Path.{◌≡◌, refl, sym, ap, ◌∙◌, subst}
use mathlib.Core.List.{List, []}
use mathlib.Core.Option.{Option, none, some}
use native.Mathlib.Omega.{arith}
use lib.ListN.{length, take, replicate, length-append}
use lib.Seq.{take_at}
use Rattle.std.specs.Prelude.{Result, Ok, Err}
use Rattle.memory.specs.Fields.{IsBytes}
use Rattle.netlist.specs.Limits.{fold_work_bytes, fold_clock_entries}
use Rattle.netlist.specs.Rows.{Row}
use Rattle.netlist.specs.FileFormat.{netlist_of, file_of, file_in, blocks_for}
use Rattle.netlist.proofs.FileLaws.{file-length}
use Rattle.abstraction.specs.Fold.{FoldAnswer, fold_netlist}
use Rattle.questions.specs.Questions.{Refusal, no_refusal, names_earlier, first_refusal}
use Rattle.questions.proofs.QuestionLaws.{number-none, number-some, list-next, list-stop}
use Rattle.questions.proofs.AcceptedFiles.{file-right, file-yes, file-checked}
use Rattle.fold_questions.specs.FoldQuestions.{fold_refusal}
use Rattle.fold_questions.proofs.FoldAccepted.{fold-right}
use Rattle.guarantees.specs.FoldGuarantee.{FoldGuarantee}
use Rattle.blockfile.proofs.ReadyLaws.{rows-by}
use Rattle.fold_refusals.specs.FoldRefusals.{fold_refusal_in}
use Rattle.fold_refusals.specs.declared.FoldRefusal.{FoldRefusal}
use Rattle.fold_refusals.proofs.EarlyLaws.{fold-number-positive}
use Rattle.fold_answers.specs.FoldAnswers.{folding_refusal, numbers_in, numbers_of, fold_answered, result_of}
use Rattle.fold_answers.specs.FoldOutcome.{CoreFolded}
use Rattle.fold_answers.specs.declared.FoldNumbers.{FoldNumbers}
use Rattle.traces.specs.TraceQuestions.{trace_questions, trace_refusal}
use Rattle.trace_values.specs.Pairs.{FoldedPair}
use Rattle.trace_answers.specs.Traced.{TraceDone}
use Rattle.trace_answers.specs.TraceAnswers.{trace_refusal_in}
use Rattle.trace_answers.specs.declared.TraceRefusal.{TraceRefusal}
use Rattle.trace_answers.specs.declared.TraceRefusal.TheVariants.{Fold}
use Rattle.trace_answers.proofs.TracedLaws.{trace-positive, trace-refused, trace-made}
use Rattle.trace.specs.TracePlans.{TraceMade}

module _ (file : List ℕ) (wish : ℕ) (result result' work work' : List ℕ) (answer : Result FoldNumbers FoldRefusal) (core : CoreFolded file wish fold_clock_entries result result' work work' answer) where
  abbrev folding : Refusal
  folding = fold_refusal file wish (length result) (length work) fold_clock_entries

  -- What is asked after Fold's questions.
  abbrev later : ℕ → ℕ → List ℕ → List ℕ → List ℕ → List Refusal
  later G k choices inputs trace = elim (fold_netlist (netlist_of file) wish) [ none ↦ [] | some a ↦ trace_questions (netlist_of file) a.phases a.rows G k choices inputs (length trace) ]

  -- Fold refuses, and so does Trace.
  pub lent-refused : (r : FoldRefusal) → answer ≡ Err r → (x : TraceRefusal) → x ≡ Fold r → (G k : ℕ) (choices inputs trace : List ℕ) → TraceDone file wish G k choices inputs (length result) (length work) trace trace (Err x)
  unfolding trace_refusal
  lent-refused r e x f G k choices inputs trace =
      rw f let same : fold_refusal_in r ≡ folding = sym (ap folding_refusal e) ∙ core.done.refusal in
      trace-refused file wish G k choices inputs (length result) (length work) trace (Fold r) (same ∙ sym (list-stop folding (later G k choices inputs trace) (omega (arith, fold-number-positive r, ap (λ (q : Refusal). q.number) same))))

  module _ (n : FoldNumbers) (e : answer ≡ Ok n) where
    abbrev original : List Row
    original = netlist_of file

    none_is : folding_refusal answer ≡ no_refusal
    none_is = ap folding_refusal e

    passed : folding ≡ no_refusal
    passed = sym core.done.refusal ∙ none_is

    Γ : FoldGuarantee file wish
    Γ = core.done.guarantee none_is

    abbrev a : FoldAnswer
    a = Γ.answer

    some_is : fold_answered file wish (length result) (length work) fold_clock_entries ≡ some a
    some_is = rw passed Γ.folds

    numbers-are : n ≡ numbers_of (some a)
    numbers-are = sym (ap numbers_in e) ∙ core.done.numbers ∙ ap numbers_of some_is

    phases-are : n.phases ≡ a.phases
    phases-are = ap (λ (m : FoldNumbers). m.phases) numbers-are

    after_is : n.after ≡ length a.rows
    after_is = ap (λ (m : FoldNumbers). m.after) numbers-are ∙ Γ.words.after

    before-is : n.before ≡ length original
    before-is = ap (λ (m : FoldNumbers). m.before) numbers-are ∙ Γ.words.before

    written_is : result' ≡ file_in a.rows result
    written_is = core.done.written ∙ ap (λ (o : Option FoldAnswer). result_of o result) some_is

    file-size : length (file_of a.rows) ≡ 512 * blocks_for n.after
    file-size = file-length a.rows ∙ ap (λ (m : ℕ). 512 * blocks_for m) (sym after_is)

    module _ (size : ℕ) (size_is : size ≡ 512 * blocks_for n.after) where
      pub left-inside : size ≤ length result'
      left-inside = omega (arith, size_is, file-size, ap length written_is, length-append (file_of a.rows) (replicate (length result - length (file_of a.rows)) 0))

      left_is : take (size - 0) result' ≡ file_of a.rows
      left_is = let z : size - 0 ≡ size = omega arith in ap (λ (m : ℕ). take m result') z ∙ ap (take size) written_is ∙ take_at (file_of a.rows) _ size (file-size ∙ sym size_is)

      rows_are : netlist_of (take (size - 0) result') ≡ a.rows
      rows_are = ap netlist_of left_is ∙ Γ.read_back

      -- Both files, for `trace_fold`.
      pub pair-by : FoldedPair file (take (size - 0) result') n.before n.after n.phases
      pair-by =
          let F = fold-right file wish (length result) (length work) fold_clock_entries (number-none folding passed) in
          let checked = file-checked (file_of a.rows) (file-right names_earlier (file_of a.rows) (number-none _ Γ.accepted)) in
          let pair : FoldedPair file (file_of a.rows) n.before n.after a.phases = record {
            original = rows-by file n.before (file-yes names_earlier file F.file-right) before-is;
            kept = rows-by (file_of a.rows) n.after Γ.accepted (after_is ∙ sym (ap length Γ.read_back));
            small = omega (arith, before-is, F.original.small);
            phases = Γ.phases;
            unique = (file-checked file F.file-right).unique;
            unphased = F.original.phases;
            kept-unique = checked.unique;
            stands = rw Γ.read_back Γ.stands;
          } in
          subst (λ (N : ℕ). FoldedPair file (take (size - 0) result') n.before n.after N) (sym phases-are) (subst (λ (f : List ℕ). FoldedPair file f n.before n.after a.phases) (sym left_is) pair)

      -- Fold's questions are passed, so 26 to 28 decide.
      module _ (G k : ℕ) (choices inputs trace : List ℕ) where
        asked_is : trace_refusal file wish G k choices inputs (length result) (length work) (length trace) ≡ first_refusal (trace_questions original a.phases a.rows G k choices inputs (length trace))
        unfolding trace_refusal
        asked_is = list-next folding (later G k choices inputs trace) (number-none folding passed) ∙ ap (λ (o : Option FoldAnswer). first_refusal (elim o as (λ _. List Refusal) [ none ↦ [] | some b ↦ trace_questions original b.phases b.rows G k choices inputs (length trace) ])) Γ.folds

        traced : IsBytes file → (trace' : List ℕ) (r : Result ℕ TraceRefusal) → TraceMade original a.phases a.rows G k choices inputs trace trace' r → TraceDone file wish G k choices inputs (length result) (length work) trace trace' r
        traced bytes trace' (Ok T) M =
            subst (λ (t : ℕ). TraceDone file wish G k choices inputs (length result) (length work) trace trace' (Ok t)) (sym M.steps) (trace-made file wish G k choices inputs (length result) (length work) trace bytes a Γ.folds (M.refusal ∙ sym asked_is) trace' M.written)
        traced bytes trace' (Err q) M =
            let same : trace ≡ trace' = sym (M.written ∙ rw (number-some (trace_refusal_in q) (trace-positive q)).0 refl) in
            subst (λ (t : List ℕ). TraceDone file wish G k choices inputs (length result) (length work) trace t (Err q)) same (trace-refused file wish G k choices inputs (length result) (length work) trace q (M.refusal ∙ sym asked_is))

        pub lent-traced : IsBytes file → (trace' : List ℕ) (r : Result ℕ TraceRefusal) → TraceMade original n.phases (netlist_of (take (size - 0) result')) G k choices inputs trace trace' r → TraceDone file wish G k choices inputs (length result) (length work) trace trace' r
        lent-traced bytes trace' r M = traced bytes trace' r (subst (λ (rows : List Row). TraceMade original a.phases rows G k choices inputs trace trace' r) rows_are (subst (λ (N : ℕ). TraceMade original N (netlist_of (take (size - 0) result')) G k choices inputs trace trace' r) phases-are M))

    pub work-long : fold_work_bytes ≤ length work
    work-long = (fold-right file wish (length result) (length work) fold_clock_entries (number-none folding passed)).memory.work-long
