-- The fold of a file that passed questions 1 to 15: what its stages ask, and that the answer is the model's.
-- Assumes nothing.
use Prim.Native.Nat.{ℕ, ◌≤◌}
use mathlib.Core.Path.{◌≡◌, refl, sym, ap, ◌∙◌, subst}
use mathlib.Core.List.{List, ◌∷◌}
use mathlib.Core.Option.{Option as Maybe, none, some}
use native.Mathlib.Omega.{arith}
use lib.ListN.{length}
use Rattle.std.specs.Prelude.{Option, Some, None, Ok, Err}
use borrow.Author.Tests.{leb-true}
use Rattle.memory.proofs.ListLaws.{tabulate-cong}
use Rattle.netlist.specs.Limits.{most_phases, most_folded_rows, fold_clock_entries}
use Rattle.netlist.specs.Rows.{Row}
use Rattle.netlist.specs.FileFormat.{netlist_of}
use Rattle.netlist.specs.WellFormed.{FoldableRows}
use Rattle.lasso.specs.LassoSearch.{Lasso, find_lasso}
use Rattle.lasso.specs.Generators.{periods_of, used_count, clock_value}
use Rattle.lasso.proofs.LassoLaws.{lasso-is}
use Rattle.lasso.proofs.PhaseCountLaws.{phases-pos, phases-le}
use Rattle.lasso.proofs.ClockLaws.{used_le}
use Rattle.abstraction.specs.Fold.{FoldAnswer, fold_with, fold_from_lasso, fold_netlist}
use Rattle.abstraction.proofs.FoldLaws.{fold-answers}
use Rattle.questions.specs.Questions.{Refusal, no_refusal, names_earlier, file_refusal}
use Rattle.fold_questions.specs.FoldQuestions.{original_refusal, argument_questions}
use Rattle.questions.proofs.QuestionLaws.{NoneRefuses, all_none, number-none, question-none}
use Rattle.fold_questions.specs.FoldRefusalWords.{MemoryRight}
use Rattle.fold_questions.proofs.FoldAccepted.{fold_memory_right-iff, OriginalRight, original-right}
use Rattle.questions.proofs.AcceptedFiles.{FileRight, file-right}
use Rattle.blockfile.specs.Ready.{Ready}
use Rattle.lasso_finder.specs.Outcome.{phases_of, analysed_clocks, analysis_of, Analysed}
use Rattle.lasso_finder.specs.declared.Clocks.{Clocks}
use Rattle.ternary_step.proofs.ReadyLaws.{analysis-ready}
use Rattle.clock_words.proofs.EntryLaws.{entry_kept}
use Rattle.unrolling.specs.UnrollMap.{Room}
use Rattle.fold_memory.specs.WorkMap.{entry_in, entries_in}
use Rattle.fold_answers.specs.FoldAnswers.{numbers_of, entries_of, result_of}
use Rattle.fold_refusals.specs.FoldRefusals.{early_refusal}
use Rattle.fold_core.specs.FoldParts.{FoldReady, folding_of, FoldMade}
use Rattle.fold_core.specs.FoldStages.{EntriesKept, FoldWritten, NumbersFit, numbers_from}
use Rattle.fold_answers.specs.declared.FoldNumbers.{FoldNumbers}
use Rattle.fold_refusals.specs.declared.FoldRefusal.TheVariants.{NoLasso}

-- ---- the entries that stay

entries-same : (w w' : List ℕ) (n : ℕ) → n ≤ fold_clock_entries → EntriesKept w w' → entries_in w' n ≡ entries_in w n
entries-same w w' n h k = tabulate-cong n (entry_in w') (entry_in w) (λ e l. entry_kept w w' e (λ x a b. k x (omega arith) (omega arith)))

-- ---- what questions 1 to 15 say

module _ (file : List ℕ) (wish result work clocks : ℕ) where
  -- The questions, in order.
  abbrev pub early_asked : List Refusal
  early_asked = file_refusal file ∷ original_refusal (netlist_of file) ∷ argument_questions wish result work clocks

  module _ (passed : early_refusal file wish result work clocks ≡ no_refusal) where
    none-refuses : NoneRefuses early_asked
    unfolding early_refusal
    none-refuses = all_none early_asked (number-none (early_refusal file wish result work clocks) passed)

    early-file : FileRight names_earlier file
    early-file = file-right names_earlier file none-refuses.0

    early-original : OriginalRight (netlist_of file)
    early-original = original-right (netlist_of file) none-refuses.1.0

    early-wish : wish ≤ most_phases
    early-wish = leb-true wish most_phases (question-none 13 _ none-refuses.1.1.0)

    pub early-memory : MemoryRight result work clocks
    early-memory = (fold_memory_right-iff result work clocks).0 (question-none 14 _ none-refuses.1.1.1.0)

-- ---- the stages

-- What the analysis answers says whether there is a lasso, and which.
found_some : (rows : List Row) (wish : ℕ) (o : Maybe Lasso) (clocks : Clocks) → Some clocks ≡ analysis_of rows wish o → (z : Lasso) × (o ≡ some z) × (clocks ≡ analysed_clocks rows wish z)
found_some rows wish none clocks e = absurd (let q : ◌≡◌ {A = ℕ} 0 1 = cc in omega arith)
found_some rows wish (some z) clocks e = (z, refl, cc)

never-none : (rows : List Row) (wish : ℕ) (o : Maybe Lasso) → None ≡ analysis_of rows wish o → o ≡ none
never-none rows wish none e = refl
never-none rows wish (some z) e = absurd (let q : ◌≡◌ {A = ℕ} 0 1 = cc in omega arith)

module _ {file : List ℕ} {n wish : ℕ} {result work : List ℕ} (R : FoldReady file n wish result work) where
  abbrev rows : List Row
  rows = netlist_of file

  original : OriginalRight rows
  original = early-original file wish (length result) (length work) R.clocks R.passed

  pub file-ready : Ready FoldableRows file n
  file-ready = analysis-ready file (early-file file wish (length result) (length work) R.clocks R.passed) n R.rows original

  pub wish-small : wish ≤ most_phases
  wish-small = early-wish file wish (length result) (length work) R.clocks R.passed

  module _ {work₁ : List ℕ} {r : Option Clocks} (A : Analysed rows wish work work₁ r) where
    -- No lasso, so no fold.
    pub made-never : r ≡ None → FoldMade file wish result result work₁ (Err NoLasso)
    unfolding fold_netlist
    made-never e =
        let q = never-none rows wish (find_lasso rows) (sym e ∙ A.answer) in
        let f : fold_netlist rows wish ≡ none = rw (q, fold_netlist) in
        record { answer-is = sym (ap folding_of f); written = sym (ap (λ (o : Maybe FoldAnswer). result_of o result) f); entries = sym (ap entries_of f); few = omega arith }

    module _ {clocks : Clocks} (found : r ≡ Some clocks) where
      -- The lasso that was found, and the clocks by it.
      lasso-of : (z : Lasso) × (find_lasso rows ≡ some z) × (clocks ≡ analysed_clocks rows wish z)
      lasso-of = found_some rows wish (find_lasso rows) clocks (sym found ∙ A.answer)

      abbrev z : Lasso
      z = lasso-of.0

      abbrev ps : List ℕ
      ps = periods_of rows z

      abbrev N : ℕ
      N = phases_of rows wish z

      phases-is : clocks.phases ≡ N
      phases-is = ap (λ (c : Clocks). c.phases) lasso-of.2

      used-is : clocks.used ≡ used_count ps N
      used-is = ap (λ (c : Clocks). c.used) lasso-of.2

      used-few : clocks.used ≤ fold_clock_entries
      used-few = omega (arith, used-is, used_le rows z N, original.registers)

      -- What `write_fold` asks.
      pub original-ready : Ready FoldableRows file (length (netlist_of file))
      original-ready = subst (Ready FoldableRows file) R.rows file-ready

      pub phases-from : 1 ≤ clocks.phases
      phases-from = omega (arith, phases-is, phases-pos wish ps)

      pub phases-to : clocks.phases ≤ most_phases
      phases-to = omega (arith, phases-is, phases-le wish ps wish-small)

      pub rooms : Room result work₁
      rooms =
          let m = early-memory file wish (length result) (length work) R.clocks R.passed in
          record { result-room = m.result-long; work-room = omega (arith, m.work-long, A.kept.long) }

      -- What `numbers` asks.
      pub numbers_fit : {after : ℕ} → after ≤ most_folded_rows → NumbersFit clocks n after
      numbers_fit h =
          let l = (lasso-is rows z lasso-of.1).within in
          record {
            stem = omega (arith, ap (λ (c : Clocks). c.stem) lasso-of.2);
            cycle = omega (arith, ap (λ (c : Clocks). c.cycle) lasso-of.2);
            phases = phases-to;
            used = used-few;
            before-few = omega (arith, R.rows, original.small);
            after-few = h;
          }

      module _ {result₂ work₂ : List ℕ} {after : ℕ} (W : FoldWritten rows clocks.phases result result₂ work₁ work₂ after) where
        written : FoldWritten rows N result result₂ work₁ work₂ after
        written = subst (λ (k : ℕ). FoldWritten rows k result result₂ work₁ work₂ after) phases-is W

        -- The fold.
        abbrev new : List Row
        new = fold_with (clock_value rows ps N) rows N

        after_is : after ≡ length new
        after_is = written.counted (clock_value rows ps N) (A.known z lasso-of.1)

        module _ {m : FoldNumbers} (numbers : m ≡ numbers_from clocks n after) where
          numbers-are : m ≡ numbers_of (some (fold_from_lasso rows wish z))
          unfolding fold_from_lasso
          numbers-are = numbers ∙ same lasso-of.2 R.rows after_is
            where
              same : {c c' : Clocks} {b b' a a' : ℕ} → c ≡ c' → b ≡ b' → a ≡ a' → numbers_from c b a ≡ numbers_from c' b' a'
              same p q s = cc (p, q, s)

          pub made-fold : FoldMade file wish result result₂ work₂ (Ok m)
          unfolding fold_from_lasso
          made-fold =
              let f = fold-answers rows wish z lasso-of.1 in
              let u : m.used ≡ clocks.used = ap (λ (x : FoldNumbers). x.used) numbers in
              record {
                answer-is = ap Ok numbers-are ∙ sym (ap folding_of f);
                written = written.written (clock_value rows ps N) (A.known z lasso-of.1) ∙ sym (ap (λ (o : Maybe FoldAnswer). result_of o result) f);
                entries = ap (entries_in work₂) (u ∙ used-is) ∙ entries-same work₁ work₂ (used_count ps N) (omega (arith, used-is, used-few)) written.kept ∙ A.entries z lasso-of.1 ∙ sym (ap entries_of f);
                few = omega (arith, u, used-few);
              }
