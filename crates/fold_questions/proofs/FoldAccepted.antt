-- What Fold's questions mean, what a fold that is not refused was given, and that it is not refused where it is given that.
-- Assumes nothing.
use Prim.Native.Nat.{ℕ, ◌+◌, ◌<◌, ◌≤◌}
use mathlib.Core.Path.{◌≡◌, refl}
use mathlib.Core.Logic.Iff
use mathlib.Core.Logic.{◌↔◌}
use mathlib.Core.Bool.{Bool, true, false, cond, false≢true}
use mathlib.Core.List.{List, [], ◌∷◌}
use mathlib.Core.Option.{Option, none, some}
use native.Mathlib.Omega.{arith}
use lib.ListN.{length}
use lib.Dec.{eqb, leb}
use borrow.Author.Tests.{leb-true, le-leb}
use Rattle.memory.specs.Lists.{count_if}
use Rattle.memory.proofs.TestLaws.{leb-iff, eqb-iff, and-iff}
use Rattle.netlist.specs.Limits.{most_phases, most_original_rows, most_original_registers, fold_result_bytes, fold_work_bytes, fold_clock_entries}
use Rattle.netlist.specs.Rows.{Row, row_at, phase_of, is_register}
use Rattle.netlist.specs.FileFormat.{netlist_of}
use Rattle.netlist.specs.WellFormed.{CheckedRows, FoldableRows}
use Rattle.lasso.specs.LassoSearch.{Lasso, find_lasso}
use Rattle.lasso.proofs.LassoLaws.{lasso-is, lasso-found}
use Rattle.questions.specs.Questions.{Refusal, no_refusal, question, item_questions, names_earlier, file_refusal}
use Rattle.questions.proofs.QuestionLaws.{all_none, all_yes, ◌then◌, number-none, question-none, question-of, items-none, items-yes}
use Rattle.questions.proofs.AcceptedFiles.{FileRight, file-right, file-yes}
use Rattle.fold_questions.specs.FoldQuestions.{phase_question, original_refusal, fold_memory_right, has_lasso, fold_refusal}
use Rattle.fold_questions.specs.FoldRefusalWords.{MemoryRight, LassoWords}

-- ---- 13, 15 and 16: Fold

pub phase_question-iff : (rows : List Row) (i : ℕ) → (phase_question rows i ≡ 0) ↔ (phase_of (row_at rows i) ≡ 0)
phase_question-iff rows i = Iff.trans (zero-iff (eqb (phase_of (row_at rows i)) 0)) (eqb-iff (phase_of (row_at rows i)) 0)
  where
    zero-iff : (t : Bool) → (◌≡◌ {A = ℕ} (cond t 0 13) 0) ↔ (t ≡ true)
    zero-iff true = (λ _. refl, λ _. refl)
    zero-iff false = (λ e. absurd (omega arith), λ e. absurd (false≢true e))

pub fold_memory_right-iff : (result work clocks : ℕ) → (fold_memory_right result work clocks ≡ true) ↔ MemoryRight result work clocks
fold_memory_right-iff result work clocks =
    Iff.trans (and-iff _ _ (and-iff _ _ (leb-iff fold_result_bytes result) (leb-iff fold_work_bytes work)) (leb-iff fold_clock_entries clocks))
    (λ w. record { result-long = w.0.0; work-long = w.0.1; clocks-long = w.1 }, λ w. ((w.result-long, w.work-long), w.clocks-long))

pub has_lasso-iff : (rows : List Row) → (has_lasso rows ≡ true) ↔ ((z : Lasso) × (find_lasso rows ≡ some z))
has_lasso-iff rows = found (find_lasso rows)
  where
    found : (o : Option Lasso) → ((elim o as (λ _. Bool) [ none ↦ false | some z ↦ true ]) ≡ true) ↔ ((z : Lasso) × (o ≡ some z))
    found none = (λ e. absurd (false≢true e), λ z. absurd (let q : ◌≡◌ {A = ℕ} 0 1 = cc z.1 in omega arith))
    found (some z) = (λ _. (z, refl), λ _. refl)

pub lasso_words-iff : (rows : List Row) → (has_lasso rows ≡ true) ↔ LassoWords rows
lasso_words-iff rows =
    Iff.trans (has_lasso-iff rows) (
      λ z. (let is = lasso-is rows z.0 z.1 in (z.0.stem, z.0.stem + z.0.cycle, is.repeat, is.within)),
      λ w. lasso-found rows w.0 w.1 w.2 w.3,
    )

-- ---- 11 to 16: Fold

-- What questions 11 to 13 say of the rows.
pub record OriginalRight (rows : List Row) : Type 0 where
  pub small : length rows ≤ most_original_rows
  pub registers : count_if is_register rows ≤ most_original_registers
  pub phases : (i : ℕ) → i < length rows → phase_of (row_at rows i) ≡ 0

module _ (rows : List Row) where
  abbrev original_asked : List Refusal
  original_asked = question 11 (leb (length rows) most_original_rows) ∷ question 12 (leb (count_if is_register rows) most_original_registers) ∷ item_questions (length rows) (phase_question rows) ∷ []

  pub original-right : (original_refusal rows).number ≡ 0 → OriginalRight rows
  unfolding original_refusal
  original-right h =
      let q = all_none original_asked h in
      record {
        small = leb-true (length rows) most_original_rows (question-none 10 _ q.0);
        registers = leb-true (count_if is_register rows) most_original_registers (question-none 11 _ q.1.0);
        phases = λ i l. (phase_question-iff rows i).0 (items-none (length rows) (phase_question rows) q.1.1.0 i l);
      }

  pub original-yes : OriginalRight rows → original_refusal rows ≡ no_refusal
  unfolding original_refusal
  original-yes O =
      all_yes original_asked
      (question-of 11 _ (le-leb (length rows) most_original_rows O.small)
      then question-of 12 _ (le-leb (count_if is_register rows) most_original_registers O.registers)
      then number-none _ (items-yes (length rows) (phase_question rows) (λ i l. (phase_question-iff rows i).1 (O.phases i l)))
      then tt)

pub rows-foldable : (rows : List Row) → CheckedRows rows → OriginalRight rows → FoldableRows rows
rows-foldable rows C O = record { checked = C; small = O.small; registers = O.registers; unphased = O.phases }

-- What Fold was given, where it refuses nothing.
pub record FoldRight (file : List ℕ) (wish result work clocks : ℕ) : Type 0 where
  pub file-right : FileRight names_earlier file
  pub original : OriginalRight (netlist_of file)
  pub wish-small : wish ≤ most_phases
  pub memory : MemoryRight result work clocks
  pub lasso : Lasso
  pub found : find_lasso (netlist_of file) ≡ some lasso

module _ (file : List ℕ) (wish result work clocks : ℕ) where
  abbrev fold_asked : List Refusal
  fold_asked = file_refusal file ∷ original_refusal (netlist_of file) ∷ question 14 (leb wish most_phases) ∷ question 15 (fold_memory_right result work clocks) ∷ question 16 (has_lasso (netlist_of file)) ∷ []

  pub fold-right : (fold_refusal file wish result work clocks).number ≡ 0 → FoldRight file wish result work clocks
  unfolding fold_refusal
  fold-right h =
      let q = all_none fold_asked h in
      let z = (has_lasso-iff (netlist_of file)).0 (question-none 15 _ q.1.1.1.1.0) in
      record {
        file-right = file-right names_earlier file q.0;
        original = original-right (netlist_of file) q.1.0;
        wish-small = leb-true wish most_phases (question-none 13 _ q.1.1.0);
        memory = (fold_memory_right-iff result work clocks).0 (question-none 14 _ q.1.1.1.0);
        lasso = z.0;
        found = z.1;
      }

  pub fold-yes : FoldRight file wish result work clocks → fold_refusal file wish result work clocks ≡ no_refusal
  unfolding fold_refusal
  fold-yes F =
      all_yes fold_asked
      (number-none _ (file-yes names_earlier file F.file-right)
      then number-none _ (original-yes (netlist_of file) F.original)
      then question-of 14 _ (le-leb wish most_phases F.wish-small)
      then question-of 15 _ ((fold_memory_right-iff result work clocks).1 F.memory)
      then question-of 16 _ ((has_lasso-iff (netlist_of file)).1 (F.lasso, F.found))
      then tt)
