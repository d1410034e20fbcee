-- What a refusal of Sort means: it is the first no of what Sort asks. And what Check accepts is sorted.
-- Assumes nothing.
use Prim.Native.Nat.{ℕ, ◌<◌}
use mathlib.Core.Path.{◌≡◌, refl, sym, ◌∙◌, subst}
use mathlib.Core.Logic.{◌↔◌, inl}
use mathlib.Core.Bool.{true, false≢true}
use mathlib.Core.List.{List, [], ◌∷◌}
use lib.ListN.{length}
use Rattle.memory.specs.Lists.{Among}
use Rattle.memory.proofs.TestLaws.{leb-iff, and-iff}
use Rattle.netlist.specs.Limits.{row_work_bytes}
use Rattle.netlist.specs.Rows.{Row, row_at}
use Rattle.netlist.specs.FileFormat.{netlist_of}
use Rattle.netlist.specs.WellFormed.{Ordered}
use Rattle.questions.specs.Questions.{names_earlier, file_refusal}
use Rattle.questions.specs.RefusalWords.{ask, asked_of_unordered, RefusalMeans}
use Rattle.questions.proofs.QuestionLaws.{number-none}
use Rattle.questions.proofs.AcceptedFiles.{file-right, file-checked, checked-unordered}
use Rattle.questions.proofs.AskedLaws.{append-yes, join-yes, all-yes-is, ItemMeans, once-means, items-means, then-means, last-means}
use Rattle.questions.proofs.RefusalMeaning.{unordered-refusal-means}
use Rattle.ordering.specs.GateOrder.{is_gate, is_in, gate_order}
use Rattle.ordering.specs.SortQuestions.{loop_question, loop_refusal, sort_memory_right, sort_refusal}
use Rattle.ordering.specs.SortRefusalWords.{SortRoom, LoopFree, asked_by_sort}
use Rattle.ordering.specs.SortGuarantee.{CheckedSorts}
use Rattle.ordering.proofs.PlacingLaws.{in-of, grounded-in, in-grounded}
use Rattle.ordering.proofs.LoopLaws.{question-zero, question-fails}
use Rattle.ordering.proofs.OrderLaws.{below_in}
use Rattle.ordering.proofs.InOrder.{order-kept}

pub sort_memory_right-iff : (file : List ℕ) (result work : ℕ) → (sort_memory_right file result work ≡ true) ↔ SortRoom file result work
sort_memory_right-iff file result work = and-iff _ _ (leb-iff (length file) result) (leb-iff (row_work_bytes (length (netlist_of file))) work)

pub loop-means : (rows : List Row) (i : ℕ) → ItemMeans (loop_question rows i) i (ask 22 i (LoopFree rows i) ∷ [])
loop-means rows i = record {
  refused = λ h. let q = question-fails rows i h in inl (sym q.0, refl, λ free. false≢true (sym q.1.1 ∙ grounded-in rows i q.1.0 (free q.1.0)));
  passed = λ h. (λ g. in-grounded rows i (question-zero rows i h g), tt);
}

pub sort-refusal-means : (file : List ℕ) (result work : ℕ) → RefusalMeans (sort_refusal file result work) (asked_by_sort file result work)
unfolding sort_refusal loop_refusal asked_by_sort
sort-refusal-means file result work =
    then-means (unordered-refusal-means file)
    (then-means (once-means 22 (sort_memory_right-iff file result work))
    (last-means (items-means (length (netlist_of file)) _ _ (loop-means (netlist_of file)))))

-- A file that Check accepts passes Sort's questions: its gates name earlier nodes, and stand in an order.
pub checked-sorts : (file : List ℕ) → CheckedSorts file
unfolding asked_by_sort
checked-sorts file h result work room =
    all-yes-is (sort_refusal file result work) (asked_by_sort file result work) (sort-refusal-means file result work)
    (append-yes (asked_of_unordered file) _ ((unordered-refusal-means file).passed (number-none _ (checked-unordered file h)))
    ((sort_memory_right-iff file result work).0 room, join-yes (length rows) _ (λ i l. (λ g. in-grounded rows i (placed i l g), tt))))
  where
    rows : List Row
    rows = netlist_of file

    ordered : Ordered rows
    ordered = (file-checked file (file-right names_earlier file (number-none (file_refusal file) h))).operands

    placed : (i : ℕ) → i < length rows → is_gate (row_at rows i) ≡ true → is_in i (gate_order rows) ≡ true
    placed i l g = in-of i (gate_order rows) (subst (Among i) (sym (order-kept rows ordered)) (below_in rows is_gate (length rows) i l g))
