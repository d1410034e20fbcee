-- The whole outcome of Fold: the refusal, the numbers and the result of the model, and demand 3 between the file given and the file left.
-- Assumes nothing.
use Prim.Native.Nat.{ℕ, ◌<◌}
use mathlib.Core.Path.{◌≡◌, refl, sym, ap, ◌∙◌}
use mathlib.Core.Bool.{true, false, cond}
use mathlib.Core.List.{List, [], ◌∷◌}
use mathlib.Core.Option.{Option, none, some}
use native.Mathlib.Omega.{arith}
use lib.Dec.{eqb}
use lib.ListN.{length, replicate}
use Rattle.std.specs.Prelude.{Result, Ok, Err}
use Rattle.memory.specs.Fields.{IsBytes}
use Rattle.netlist.specs.Rows.{Row}
use Rattle.netlist.specs.FileFormat.{netlist_of}
use Rattle.lasso.specs.LassoSearch.{Lasso, find_lasso}
use Rattle.abstraction.specs.Fold.{FoldAnswer, fold_from_lasso, fold_netlist}
use Rattle.questions.specs.Questions.{Refusal, no_refusal, first_refusal, question}
use Rattle.fold_questions.specs.FoldQuestions.{has_lasso, fold_refusal}
use Rattle.questions.proofs.QuestionLaws.{same_number, first-before, first-behind}
use Rattle.ternary_step.proofs.ReadyLaws.{work-ready-of}
use Rattle.fold_refusals.specs.FoldRefusals.{fold_refusal_in, early_refusal, asked_refusal, Questioned}
use Rattle.fold_refusals.specs.declared.FoldRefusal.{FoldRefusal}
use Rattle.fold_refusals.proofs.EarlyLaws.{fold-number-positive}
use Rattle.fold_answers.specs.FoldAnswers.{folding_refusal, numbers_in, fold_answered, numbers_of, entries_of, result_of}
use Rattle.fold_answers.specs.FoldOutcome.{CoreFolded}
use Rattle.fold_answers.specs.declared.FoldNumbers.{FoldNumbers}
use Rattle.fold_answers.proofs.CoreLaws.{core-refused, core-answered}
use Rattle.fold_core.specs.FoldParts.{FoldReady, folding_of, FoldMade}
use Rattle.fold_core.proofs.PassedLaws.{early_asked, early-memory}

-- ---- 16, behind questions 1 to 15

-- Question 16 alone.
abbrev lasso_refusal : List Row → Refusal
lasso_refusal rows = first_refusal (question 16 (has_lasso rows) ∷ [])

module _ (file : List ℕ) (wish result work clocks : ℕ) where
  early-refuses : 0 < (early_refusal file wish result work clocks).number → fold_refusal file wish result work clocks ≡ early_refusal file wish result work clocks
  unfolding early_refusal fold_refusal
  early-refuses h = first-before (early_asked file wish result work clocks) (question 16 (has_lasso (netlist_of file)) ∷ []) h

  early-passes : early_refusal file wish result work clocks ≡ no_refusal → fold_refusal file wish result work clocks ≡ lasso_refusal (netlist_of file)
  unfolding early_refusal fold_refusal
  early-passes h = first-behind (early_asked file wish result work clocks) (question 16 (has_lasso (netlist_of file)) ∷ []) (same_number h)

module _ (rows : List Row) (wish : ℕ) where
  -- Where there is no lasso there is no fold, and it is refused for that.
  lasso-refusal : folding_refusal (folding_of (fold_netlist rows wish)) ≡ lasso_refusal rows
  unfolding fold_netlist
  lasso-refusal = go (find_lasso rows)
    where
      go : (o : Option Lasso) → folding_refusal (folding_of (elim o [ none ↦ none | some z ↦ some (fold_from_lasso rows wish z) ])) ≡ first_refusal (question 16 (elim o [ none ↦ false | some z ↦ true ]) ∷ [])
      go none = refl
      go (some z) = refl

  lasso-answered : cond (eqb (lasso_refusal rows).number 0) (fold_netlist rows wish) none ≡ fold_netlist rows wish
  unfolding fold_netlist
  lasso-answered = go (find_lasso rows)
    where
      go : (o : Option Lasso) → cond {A = Option FoldAnswer} (eqb (first_refusal (question 16 (elim o [ none ↦ false | some z ↦ true ]) ∷ [])).number 0) (elim o [ none ↦ none | some z ↦ some (fold_from_lasso rows wish z) ]) none ≡ elim o [ none ↦ none | some z ↦ some (fold_from_lasso rows wish z) ]
      go none = refl
      go (some z) = refl

-- ---- the outcome

numbers-same : (o : Option FoldAnswer) → numbers_in (folding_of o) ≡ numbers_of o
numbers-same none = refl
numbers-same (some a) = refl

-- The work memory is cleared, and keeps its length.
module _ {file : List ℕ} {wish clocks : ℕ} (result work cleared : List ℕ) (long : length cleared ≡ length work) {asked : Result ℕ FoldRefusal} (Q : Questioned file wish (length result) (length cleared) clocks asked) where
  early-is : asked_refusal asked ≡ early_refusal file wish (length result) (length work) clocks
  early-is = Q.refusal ∙ ap (λ (k : ℕ). early_refusal file wish (length result) k clocks) long

  pub core-stopped : {r : FoldRefusal} → asked ≡ Err r → CoreFolded file wish clocks result result work cleared (Err r)
  core-stopped {r} e =
      let q : fold_refusal_in r ≡ early_refusal file wish (length result) (length work) clocks = sym (ap asked_refusal e) ∙ early-is in
      let positive = fold-number-positive r in
      core-refused file wish clocks result work cleared r (q ∙ sym (early-refuses file wish (length result) (length work) clocks (omega (arith, same_number q))))

  pub fold-ready : {n : ℕ} → asked ≡ Ok n → cleared ≡ replicate (length work) 0 → FoldReady file n wish result cleared
  fold-ready {n} e z =
      let p : early_refusal file wish (length result) (length cleared) clocks ≡ no_refusal = sym Q.refusal ∙ ap asked_refusal e in
      record { clocks = clocks; passed = p; rows = Q.rows n e; work-ready = work-ready-of cleared (length work) z (early-memory file wish (length result) (length cleared) clocks p).work-long }

  module _ (bytes : IsBytes file) {n : ℕ} (passed : asked ≡ Ok n) {result' work' : List ℕ} {answer : Result FoldNumbers FoldRefusal} (M : FoldMade file wish result result' work' answer) where
    early-none : early_refusal file wish (length result) (length work) clocks ≡ no_refusal
    early-none = sym early-is ∙ ap asked_refusal passed

    refusal_is : folding_refusal answer ≡ fold_refusal file wish (length result) (length work) clocks
    refusal_is = ap folding_refusal M.answer-is ∙ lasso-refusal (netlist_of file) wish ∙ sym (early-passes file wish (length result) (length work) clocks early-none)

    answered-is : fold_answered file wish (length result) (length work) clocks ≡ fold_netlist (netlist_of file) wish
    answered-is = ap (λ (r : Refusal). cond (eqb r.number 0) (fold_netlist (netlist_of file) wish) none) (early-passes file wish (length result) (length work) clocks early-none) ∙ lasso-answered (netlist_of file) wish

    numbers-are : numbers_in answer ≡ numbers_of (fold_netlist (netlist_of file) wish)
    numbers-are = ap numbers_in M.answer-is ∙ numbers-same (fold_netlist (netlist_of file) wish)

    pub core-passed : CoreFolded file wish clocks result result' work work' answer
    core-passed =
        let m = early-memory file wish (length result) (length work) clocks early-none in
        core-answered file wish clocks result result' work work' answer bytes refusal_is (numbers-are ∙ sym (ap numbers_of answered-is)) (M.written ∙ sym (ap (λ (o : Option FoldAnswer). result_of o result) answered-is))
        (M.entries ∙ sym (ap entries_of answered-is)) (omega (arith, M.few, m.clocks-long), M.few)
