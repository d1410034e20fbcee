-- Questions 1 to 15: the first row that has a phase, and the first no of the questions in order.
-- Assumes nothing.
use Prim.Native.Nat.{ℕ, ◌<◌, ◌≤◌}
use mathlib.Core.Path.{◌≡◌, refl, sym, ap, ◌∙◌}
use mathlib.Core.Bool.{Bool, true, false, cond}
use mathlib.Core.List.{List, [], ◌∷◌}
use native.Mathlib.Omega.{arith}
use native.Mathlib.Nat.{zero-add}
use lib.ListN.{length}
use Rattle.std.specs.Prelude.{Result, Ok, Err}
use lib.Dec.{eqb, ltb, leb}
use borrow.Author.Tests.{ltb-true, lt-ltb, le-ltb, le-leb, lt-leb, ne_eqb}
use Rattle.memory.specs.Lists.{first_from, count_if}
use Rattle.memory.proofs.ListLaws.{first-is, first-none, first_found}
use Rattle.netlist.specs.Limits.{most_original_rows, most_original_registers}
use Rattle.netlist.specs.Rows.{Row, decode_row, row_at, phase_of, is_register}
use Rattle.netlist.specs.FileFormat.{read_fields, netlist_of}
use Rattle.questions.specs.Questions.{Refusal, no_refusal, question, item_questions, file_refusal, Counts, counts_of}
use Rattle.fold_questions.specs.FoldQuestions.{phase_question, original_refusal, argument_questions}
use Rattle.questions.proofs.QuestionLaws.{list-next, all_yes, ◌then◌, number-none, question-of, list-stop, question-no}
use Rattle.fold_questions.proofs.FoldAccepted.{phase_question-iff}
use Rattle.blockfile.specs.declared.count.Counts as code
use Rattle.blockfile.specs.CountCode.{counts_in}
use Rattle.blockfile.specs.Ready.{HasRows}
use Rattle.accept.specs.declared.FileRefusal.{FileRefusal}
use Rattle.accept.specs.declared.Accepted.{Accepted}
use Rattle.accept.specs.Refusals.{Answered}
use Rattle.accept.proofs.RefusalLaws.{number-positive, accepted-none, refused-is}
use Rattle.fold_refusals.specs.declared.FoldRefusal.{FoldRefusal}
use Rattle.fold_refusals.specs.declared.FoldRefusal.TheVariants.{File, Rows, Registers, Phase, Wish, Memory, NoLasso}
use Rattle.fold_refusals.specs.EarlyAnswers.{has_phase, AnswersTo}
use Rattle.fold_refusals.specs.FoldRefusals.{fold_refusal_in, early_refusal, Questioned}

-- ---- 13: the rows in turn

module _ (rows : List Row) where
  -- The first i rows have phase 0.
  abbrev pub NoPhase : ℕ → Type 0
  NoPhase i = (j : ℕ) → j < i → phase_of (row_at rows j) ≡ 0

  phase-zero : (i : ℕ) → phase_of (row_at rows i) ≡ 0 → has_phase rows i ≡ false
  phase-zero i e = le-ltb 0 (phase_question rows i) (omega (arith, (phase_question-iff rows i).1 e))

  phase-some : (i : ℕ) → (phase_of (row_at rows i) ≡ 0 → ⊥) → has_phase rows i ≡ true
  phase-some i h = ap (λ (t : Bool). ltb 0 (cond t 0 13)) (ne_eqb (phase_of (row_at rows i)) 0 h)

  phase-found : (n i : ℕ) → i < n → NoPhase i → (phase_of (row_at rows i) ≡ 0 → ⊥) → i ≡ first_from 0 n (has_phase rows)
  phase-found n i l before h = sym (first_found 0 n (has_phase rows) i (omega arith) (omega arith) (λ j _ b. phase-zero j (before j b)) (phase-some i h))

  pub phase-missing : (n i : ℕ) → n ≤ i → NoPhase i → first_from 0 n (has_phase rows) ≡ n
  phase-missing n i l before = first-none 0 n (has_phase rows) (λ j _ b. phase-zero j (before j (omega arith))) ∙ zero-add n

  -- The answer of question 13, by the first row that has a phase.
  module _ (r : ℕ) (first : r ≡ first_from 0 (length rows) (has_phase rows)) where
    -- Where row i is the first.
    abbrev answer_at : ℕ → Refusal
    answer_at i = cond (ltb i (length rows)) (record { number = phase_question rows i; place = i }) no_refusal

    phases-no : r < length rows → item_questions (length rows) (phase_question rows) ≡ fold_refusal_in (Phase r)
    phases-no l = ap answer_at (sym first) ∙ ap (λ (t : Bool). cond t (record { number = phase_question rows r; place = r }) no_refusal) (lt-ltb r (length rows) l) ∙ ap (λ (k : ℕ). record { number = k; place = r }) thirteen
      where
        go : (t : Bool) → 0 < cond t 0 13 → ◌≡◌ {A = ℕ} (cond t 0 13) 13
        go true h = absurd (omega arith)
        go false h = refl

        thirteen : phase_question rows r ≡ 13
        thirteen = go (eqb (phase_of (row_at rows r)) 0) (ltb-true 0 (phase_question rows r) (ap (has_phase rows) first ∙ (first-is 0 (length rows) (has_phase rows)).holds (omega (arith, first))))

    phases-none : length rows ≤ r → (item_questions (length rows) (phase_question rows)).number ≡ 0
    phases-none l = ap (λ (i : ℕ). (answer_at i).number) (sym first) ∙ ap (λ (t : Bool). (cond t (record { number = phase_question rows r; place = r }) no_refusal).number) (le-ltb r (length rows) l)

-- The phase p that is read is row i's, where the rows before have phase 0.
module _ (file : List ℕ) (n : ℕ) (R : HasRows file n) (i : ℕ) (more : i < n) (p : ℕ) (read : p ≡ phase_of (decode_row (read_fields file i))) (before : NoPhase (netlist_of file) i) where
  phase-read : phase_of (row_at (netlist_of file) i) ≡ p
  phase-read = ap phase_of (R.row_is i more) ∙ sym read

  pub phase-here : (p ≡ 0 → ⊥) → i ≡ first_from 0 n (has_phase (netlist_of file))
  phase-here h = phase-found (netlist_of file) n i more before (λ e. h (sym phase-read ∙ e))

-- ---- the first no of a list of questions

pub fold-number-positive : (x : FoldRefusal) → 0 < (fold_refusal_in x).number
fold-number-positive (File r) = number-positive r
fold-number-positive Rows = omega arith
fold-number-positive Registers = omega arith
fold-number-positive (Phase r) = omega arith
fold-number-positive Wish = omega arith
fold-number-positive Memory = omega arith
fold-number-positive NoLasso = omega arith

module _ (n : ℕ) (q : Refusal) (qs : List Refusal) where
  answer-stop : (x : FoldRefusal) → q ≡ fold_refusal_in x → AnswersTo (q ∷ qs) n (Err x)
  answer-stop x e = record {
    refusal = sym (list-stop q qs (omega (arith, fold-number-positive x, ap (λ (q : Refusal). q.number) e)) ∙ e);
    rows = λ m e. absurd (let z : ◌≡◌ {A = ℕ} 0 1 = cc e in omega arith);
  }

  answer-next : (a : Result ℕ FoldRefusal) → q.number ≡ 0 → AnswersTo qs n a → AnswersTo (q ∷ qs) n a
  answer-next a e A = record { refusal = A.refusal ∙ sym (list-next q qs e); rows = A.rows }

-- ---- 11 to 13, of n rows, and then the questions qs

module _ (rows : List Row) (n : ℕ) (count : n ≡ length rows) (qs : List Refusal) where
  -- 11, 12 and 13.
  abbrev asked_rows : Refusal
  asked_rows = question 11 (leb (length rows) most_original_rows)

  abbrev asked_registers : Refusal
  asked_registers = question 12 (leb (count_if is_register rows) most_original_registers)

  abbrev asked_phases : Refusal
  asked_phases = item_questions (length rows) (phase_question rows)

  -- A refusal of one of the three.
  original-no : (x : FoldRefusal) → AnswersTo (asked_rows ∷ asked_registers ∷ asked_phases ∷ []) n (Err x) → AnswersTo (original_refusal rows ∷ qs) n (Err x)
  unfolding original_refusal
  original-no x A = answer-stop n (original_refusal rows) qs x (sym A.refusal)

  pub rows-no : most_original_rows < n → AnswersTo (original_refusal rows ∷ qs) n (Err Rows)
  rows-no h = original-no Rows (answer-stop n asked_rows (asked_registers ∷ asked_phases ∷ []) Rows (question-no 11 (leb (length rows) most_original_rows) (lt-leb (length rows) most_original_rows (omega arith))))

  module _ (small : n ≤ most_original_rows) where
    rows-yes : asked_rows.number ≡ 0
    rows-yes = question-of 11 (leb (length rows) most_original_rows) (le-leb (length rows) most_original_rows (omega arith))

    module _ (counts : code.Counts) (counted : counts_in counts ≡ counts_of rows) where
      registers-are : counts.registers ≡ count_if is_register rows
      registers-are = ap (λ (k : Counts). k.registers) counted

      pub registers-no : most_original_registers < counts.registers → AnswersTo (original_refusal rows ∷ qs) n (Err Registers)
      registers-no h =
          original-no Registers
          (answer-next n asked_rows (asked_registers ∷ asked_phases ∷ []) (Err Registers) rows-yes
          (answer-stop n asked_registers (asked_phases ∷ []) Registers (question-no 12 (leb (count_if is_register rows) most_original_registers) (lt-leb (count_if is_register rows) most_original_registers (omega (arith, registers-are))))))

      module _ (few : counts.registers ≤ most_original_registers) where
        registers-yes : asked_registers.number ≡ 0
        registers-yes = question-of 12 (leb (count_if is_register rows) most_original_registers) (le-leb (count_if is_register rows) most_original_registers (omega (arith, registers-are)))

        -- The first row that has a phase, or the row count.
        first-of : (r : ℕ) → r ≡ first_from 0 n (has_phase rows) → r ≡ first_from 0 (length rows) (has_phase rows)
        first-of r first = first ∙ ap (λ (n : ℕ). first_from 0 n (has_phase rows)) count

        pub phase-no : (r : ℕ) → r < n → r ≡ first_from 0 n (has_phase rows) → AnswersTo (original_refusal rows ∷ qs) n (Err (Phase r))
        phase-no r l first =
            original-no (Phase r)
            (answer-next n asked_rows (asked_registers ∷ asked_phases ∷ []) (Err (Phase r)) rows-yes
            (answer-next n asked_registers (asked_phases ∷ []) (Err (Phase r)) registers-yes
            (answer-stop n asked_phases [] (Phase r) (phases-no rows r (first-of r first) (omega arith)))))

        pub original-passed : first_from 0 n (has_phase rows) ≡ n → (a : Result ℕ FoldRefusal) → AnswersTo qs n a → AnswersTo (original_refusal rows ∷ qs) n a
        unfolding original_refusal
        original-passed first a A =
            let none = phases-none rows n (first-of n (sym first)) (omega arith) in
            answer-next n (original_refusal rows) qs a (number-none (original_refusal rows) (all_yes (asked_rows ∷ asked_registers ∷ asked_phases ∷ []) (rows-yes then registers-yes then none then tt))) A

-- ---- 1 to 10, then the others

module _ (file : List ℕ) (checked : Result Accepted FileRefusal) (answered : Answered (file_refusal file) (netlist_of file) checked) where
  module _ (wish result work clocks : ℕ) where
    -- 11 to 15.
    abbrev asked_after : List Refusal
    asked_after = original_refusal (netlist_of file) ∷ argument_questions wish result work clocks

    all_asked : (n : ℕ) (a : Result ℕ FoldRefusal) → n ≡ length (netlist_of file) → AnswersTo (file_refusal file ∷ asked_after) n a → Questioned file wish result work clocks a
    unfolding early_refusal
    all_asked n a count A = record { refusal = A.refusal; rows = λ m e. A.rows m e ∙ count }

    pub file-no : (r : FileRefusal) → checked ≡ Err r → Questioned file wish result work clocks (Err (File r))
    file-no r e = all_asked (length (netlist_of file)) (Err (File r)) refl (answer-stop (length (netlist_of file)) (file_refusal file) asked_after (File r) (sym (refused-is file checked answered r e)))

    pub original-asked : (y : Accepted) → checked ≡ Ok y → (a : Result ℕ FoldRefusal) → AnswersTo asked_after y.rows a → Questioned file wish result work clocks a
    original-asked y e a A = all_asked y.rows a (answered.count y e) (answer-next y.rows (file_refusal file) asked_after a (number-none (file_refusal file) (accepted-none file checked answered y e)) A)
