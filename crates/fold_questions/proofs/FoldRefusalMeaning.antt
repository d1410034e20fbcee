-- What a refusal of Fold means: it is the first no of what Fold asks.
-- Assumes nothing.
use Prim.Native.Nat.{ℕ}
use mathlib.Core.Path.{◌≡◌}
use mathlib.Core.Logic.{◌↔◌}
use mathlib.Core.Bool.{Bool, true, false, cond}
use mathlib.Core.List.{List, [], ◌∷◌}
use lib.ListN.{length}
use lib.Dec.{eqb}
use Rattle.memory.specs.Lists.{count_if}
use Rattle.memory.proofs.TestLaws.{leb-iff, eqb-iff}
use Rattle.netlist.specs.Limits.{most_phases, most_original_rows, most_original_registers}
use Rattle.netlist.specs.Rows.{Row, row_at, phase_of, is_register}
use Rattle.netlist.specs.FileFormat.{netlist_of}
use Rattle.fold_questions.specs.FoldQuestions.{phase_question, original_refusal, fold_refusal}
use Rattle.questions.specs.RefusalWords.{ask, RefusalMeans}
use Rattle.fold_questions.specs.FoldRefusalWords.{asked_of_original, asked_by_fold}
use Rattle.fold_questions.proofs.FoldAccepted.{fold_memory_right-iff, lasso_words-iff}
use Rattle.questions.proofs.AskedLaws.{ItemMeans, once-means, none-means, test-means, items-means, then-means, last-means}
use Rattle.questions.proofs.RefusalMeaning.{file-refusal-means}

phase-means : (rows : List Row) (i : ℕ) → ItemMeans (phase_question rows i) i (ask 13 i (phase_of (row_at rows i) ≡ 0) ∷ [])
phase-means rows i = go (eqb (phase_of (row_at rows i)) 0) (eqb-iff (phase_of (row_at rows i)) 0)
  where
    go : (t : Bool) → (t ≡ true) ↔ (phase_of (row_at rows i) ≡ 0) → ItemMeans (cond t 0 13) i (ask 13 i (phase_of (row_at rows i) ≡ 0) ∷ [])
    go true w = test-means 12 i w (λ _. none-means i)
    go false w = test-means 12 i w (λ _. none-means i)

pub original-means : (rows : List Row) → RefusalMeans (original_refusal rows) (asked_of_original rows)
unfolding original_refusal asked_of_original
original-means rows =
    then-means (once-means 10 (leb-iff (length rows) most_original_rows))
    (then-means (once-means 11 (leb-iff (count_if is_register rows) most_original_registers))
    (last-means (items-means (length rows) _ _ (phase-means rows))))

pub fold-refusal-means : (file : List ℕ) (wish result work clocks : ℕ) → RefusalMeans (fold_refusal file wish result work clocks) (asked_by_fold file wish result work clocks)
unfolding fold_refusal asked_by_fold
fold-refusal-means file wish result work clocks =
    then-means (file-refusal-means file)
    (then-means (original-means (netlist_of file))
    (then-means (once-means 13 (leb-iff wish most_phases))
    (then-means (once-means 14 (fold_memory_right-iff result work clocks))
    (last-means (once-means 15 (lasso_words-iff (netlist_of file)))))))
