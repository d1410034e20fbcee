-- Fold's outcome over plain slices by its answer: a refusal changes nothing but work, and a file that is written has what demand 3 asks.
-- Assumes nothing.
use Prim.Native.Nat.{ℕ, ◌*◌, ◌≤◌}
use mathlib.Core.Path.{◌≡◌, refl, sym, ap, ◌∙◌, subst}
use mathlib.Core.List.{List}
use mathlib.Core.Option.{Option, none, some}
use native.Mathlib.Omega.{arith}
use lib.ListN.{length}
use lib.Seq.{take_at}
use Rattle.std.specs.Prelude.{Result, Err}
use Rattle.memory.specs.Fields.{IsBytes}
use Rattle.netlist.specs.Limits.{fold_clock_entries}
use Rattle.netlist.specs.FileFormat.{file_of, blocks_for, file_left}
use Rattle.netlist.proofs.FileLaws.{file-length}
use Rattle.abstraction.specs.Fold.{FoldAnswer}
use Rattle.questions.specs.Questions.{no_refusal}
use Rattle.questions.proofs.QuestionLaws.{same_number, number-some}
use Rattle.fold_questions.specs.FoldQuestions.{fold_refusal}
use Rattle.guarantees.specs.FoldGuarantee.{FoldGuarantee}
use Rattle.guarantees.proofs.FoldPromise.{fold-guarantee}
use Rattle.fold_memory.specs.WorkMap.{entries_in}
use Rattle.fold_refusals.specs.FoldRefusals.{fold_refusal_in}
use Rattle.fold_refusals.specs.declared.FoldRefusal.{FoldRefusal}
use Rattle.fold_refusals.proofs.EarlyLaws.{fold-number-positive}
use Rattle.fold_answers.specs.FoldAnswers.{folding_refusal, numbers_in, used_in, fold_answered, numbers_of, entries_of, result_of}
use Rattle.fold_answers.specs.FoldOutcome.{LeftFolded, CoreFolded}
use Rattle.fold_answers.specs.declared.FoldNumbers.{FoldNumbers}

-- The file of the rows at the start of a result.
left-file : (file : List ℕ) (wish : ℕ) (G : FoldGuarantee file wish) (result : List ℕ) → LeftFolded file G.answer.phases (file_left (result_of (some G.answer) result) G.answer.after)
left-file file wish G result =
    let new = G.answer.rows in
    let n : length (file_of new) ≡ 512 * blocks_for G.answer.after = file-length new ∙ ap (λ (k : ℕ). 512 * blocks_for k) (sym G.words.after) in
    subst (LeftFolded file G.answer.phases) (sym (take_at (file_of new) _ (512 * blocks_for G.answer.after) n))
    (record { accepted = G.accepted; stands = rw G.read_back G.stands; behaves = rw G.read_back G.behaves })

module _ (file : List ℕ) (wish clocks : ℕ) (result : List ℕ) where
  -- Nothing is packed, whatever work has.
  pub core-refused : (work work' : List ℕ) (r : FoldRefusal) → fold_refusal_in r ≡ fold_refusal file wish (length result) (length work) clocks → CoreFolded file wish clocks result result work work' (Err r)
  core-refused work work' r e =
      let positive = fold-number-positive r in
      let none_is : fold_answered file wish (length result) (length work) clocks ≡ none = rw (number-some (fold_refusal file wish (length result) (length work) clocks) (omega (arith, positive, same_number e))).0 refl in
      let refused = (number-some (fold_refusal_in r) positive).1 in
      record {
        done = record {
          refusal = e;
          numbers = sym (ap numbers_of none_is);
          written = sym (ap (λ (o : Option FoldAnswer). result_of o result) none_is);
          guarantee = λ z. absurd (refused z);
          left = λ z. absurd (refused z);
        };
        entries = sym (ap entries_of none_is);
        few = (omega arith, omega arith);
      }

  module _ (result' work work' : List ℕ) (answer : Result FoldNumbers FoldRefusal) (bytes : IsBytes file) (e : folding_refusal answer ≡ fold_refusal file wish (length result) (length work) clocks) (numbers : numbers_in answer ≡ numbers_of (fold_answered file wish (length result) (length work) clocks))
      (written : result' ≡ result_of (fold_answered file wish (length result) (length work) clocks) result) where
    guaranteed : folding_refusal answer ≡ no_refusal → FoldGuarantee file wish
    guaranteed z = fold-guarantee file bytes wish (length result) (length work) clocks (sym e ∙ z)

    left_is : folding_refusal answer ≡ no_refusal → LeftFolded file (numbers_in answer).phases (file_left result' (numbers_in answer).after)
    left_is z =
        let G = guaranteed z in
        let folds : fold_answered file wish (length result) (length work) clocks ≡ some G.answer = rw (sym e ∙ z) G.folds in
        let a : numbers_in answer ≡ numbers_of (some G.answer) = numbers ∙ ap numbers_of folds in
        let w : result' ≡ result_of (some G.answer) result = written ∙ ap (λ (o : Option FoldAnswer). result_of o result) folds in
        rw (w, a) (left-file file wish G result)

    pub core-answered : entries_in work' (used_in answer) ≡ entries_of (fold_answered file wish (length result) (length work) clocks) → (used_in answer ≤ clocks) × (used_in answer ≤ fold_clock_entries) → CoreFolded file wish clocks result result' work work' answer
    core-answered entries few = record { done = record { refusal = e; numbers = numbers; written = written; guarantee = guaranteed; left = left_is }; entries = entries; few = few }
