-- The outcome of Sort, from its parts: the questions that it plans by, the loop that it looks for, and the rows that it writes.
-- Assumes nothing.
use Prim.Native.Nat.{ℕ, ◌<◌, ◌≤◌}
use mathlib.Core.Path.{◌≡◌, sym, ap, ◌∙◌, subst}
use mathlib.Core.Bool.{Bool, true, false, ◌&&◌}
use mathlib.Core.List.{List, [], ◌∷◌}
use native.Mathlib.Omega.{arith}
use lib.ListN.{length, replicate}
use lib.Dec.{leb}
use Rattle.std.specs.Prelude.{Result, Ok, Err}
use Rattle.memory.specs.Fields.{IsBytes}
use Rattle.netlist.specs.Limits.{row_work_bytes}
use Rattle.netlist.specs.Rows.{Row}
use Rattle.netlist.specs.FileFormat.{netlist_of, file_in}
use Rattle.netlist.specs.WellFormed.{UnorderedRows}
use Rattle.questions.specs.Questions.{Refusal, no_refusal, unless_refused, first_refusal, question, names_anywhere, unordered_refusal}
use Rattle.questions.proofs.QuestionLaws.{list-next, list-stop, list-yes, list-no, number-none, same_number, first-before, first-behind}
use Rattle.questions.proofs.AcceptedFiles.{file-right, rows-of-file}
use Rattle.ordering.specs.GateOrder.{sorted_netlist}
use Rattle.ordering.specs.SortQuestions.{loop_refusal, sort_memory_right, sort_refusal}
use Rattle.ordering.proofs.LoopLaws.{loop-last}
use Rattle.ordering.proofs.SortRefusalMeaning.{sort_memory_right-iff}
use Rattle.blockfile.specs.Ready.{Ready}
use Rattle.gate_rows.specs.Sources.{source_rows, Source}
use Rattle.gate_rows.specs.declared.Layout.TheVariants as layout
use Rattle.row_sorter.specs.Placing.{RowsSorted}
use Rattle.gate_rows.proofs.SourceLaws.{file-is, file-source}
use Rattle.accept.specs.Refusals.{refusal_in, accept_refusal, CheckedUnordered}
use Rattle.accept.specs.declared.FileRefusal.{FileRefusal}
use Rattle.accept.specs.declared.Accepted.{Accepted}
use Rattle.accept.proofs.RefusalLaws.{number-positive, unordered-ready}
use Rattle.sort_answers.specs.SortAnswers.{sort_refusal_in, sorting_refusal, rows_in}
use Rattle.sort_answers.specs.SortOutcome.{Sorted}
use Rattle.sort_answers.specs.declared.SortRefusal.{SortRefusal}
use Rattle.sort_answers.specs.declared.SortRefusal.TheVariants.{File, Memory}
use Rattle.sort_answers.proofs.SortedLaws.{sort-positive, sort-refused, sort-answered}
use Rattle.sort.specs.SortParts.{Sortable, plan_asked, plan_refusal, SortPlanned}

-- ---- 1 to 10 and 23

sortable-of : (file : List ℕ) (n : ℕ) → Ready UnorderedRows file n → unordered_refusal file ≡ no_refusal → n ≡ length (netlist_of file) → Sortable file n
sortable-of file n ready e q =
    let F = file-right names_anywhere file (number-none (unordered_refusal file) e) in
    let R = rows-of-file names_anywhere file F in
    record { source = file-source file n ready e; size = omega (arith, F.size.whole, R.2, q) }

module _ (file : List ℕ) (result work : ℕ) (a : Result Accepted FileRefusal) (C : CheckedUnordered file a) where
  pub plan-file : (r : FileRefusal) → a ≡ Err r → SortPlanned file result work (Err (File r))
  plan-file r e =
      let q : unordered_refusal file ≡ refusal_in r = sym C.refusal ∙ ap accept_refusal e in
      record {
        refusal = sym (list-stop (unordered_refusal file) (question 23 (sort_memory_right file result work) ∷ []) (omega (arith, ap (λ (x : Refusal). x.number) q, number-positive r)) ∙ q);
        go = λ n p. absurd (let z : ◌≡◌ {A = ℕ} 0 1 = cc p in omega arith);
      }

  module _ (y : Accepted) (e : a ≡ Ok y) where
    none : unordered_refusal file ≡ no_refusal
    none = sym C.refusal ∙ ap accept_refusal e

    past : plan_asked file result work ≡ first_refusal (question 23 (sort_memory_right file result work) ∷ [])
    past = list-next (unordered_refusal file) (question 23 (sort_memory_right file result work) ∷ []) (number-none _ none)

    pub plan-go : (least : ℕ) → least ≡ row_work_bytes y.rows → length file ≤ result → least ≤ work → SortPlanned file result work (Ok y.rows)
    plan-go least asked size room =
        let right : sort_memory_right file result work ≡ true = (sort_memory_right-iff file result work).1 (size, omega (arith, asked, ap row_work_bytes (C.count y e))) in
        record {
          refusal = sym (past ∙ list-yes 23 (sort_memory_right file result work) [] right);
          go = λ m p. subst (λ (k : ℕ). Sortable file k × ((length file ≤ result) × (row_work_bytes k ≤ work))) (let z : y.rows ≡ m = cc p in z) (sortable-of file y.rows (unordered-ready file a C y e) none (C.count y e), (size, omega (arith, asked)));
        }

-- What a plan to go on says.
module _ (file : List ℕ) (result work : ℕ) (plan : Result ℕ SortRefusal) (P : SortPlanned file result work plan) (n : ℕ) (e : plan ≡ Ok n) where
  pub plan-sortable : Sortable file n
  plan-sortable = (P.go n e).0

  pub plan-room : length file ≤ result
  plan-room = (P.go n e).1.0

  pub plan-work : row_work_bytes n ≤ work
  plan-work = (P.go n e).1.1

-- ---- 22, and the rows

pub sortable-source : (file : List ℕ) (n : ℕ) → Sortable file n → Source layout.File file n
sortable-source file n S = S.source

-- What the sorter makes of the file's rows.
pub file-sorted : (file : List ℕ) (result result' : List ℕ) (q : Refusal) (m : ℕ) → RowsSorted (source_rows layout.File file) result result' q m → RowsSorted (netlist_of file) result result' q m
file-sorted file result result' q m = subst (λ (rows : List Row). RowsSorted rows result result' q m) (file-is file)

-- ---- the outcome

module _ (file : List ℕ) (result work : ℕ) where
  plan-refuses : 0 < (plan_asked file result work).number → sort_refusal file result work ≡ plan_asked file result work
  unfolding sort_refusal
  plan-refuses h = first-before (unordered_refusal file ∷ question 23 (sort_memory_right file result work) ∷ []) (loop_refusal (netlist_of file) ∷ []) h

  plan-passes : plan_asked file result work ≡ no_refusal → sort_refusal file result work ≡ loop_refusal (netlist_of file)
  unfolding sort_refusal
  plan-passes h = first-behind (unordered_refusal file ∷ question 23 (sort_memory_right file result work) ∷ []) (loop_refusal (netlist_of file) ∷ []) (same_number h) ∙ loop-last (netlist_of file)

module _ (file result work work' : List ℕ) (plan : Result ℕ SortRefusal) (P : SortPlanned file (length result) (length work) plan) where
  pub stopped_by : (r : SortRefusal) → plan ≡ Err r → work' ≡ replicate (length work) 0 → Sorted file result result work work' (Err r)
  stopped_by r e clear =
      let q : sort_refusal_in r ≡ plan_asked file (length result) (length work) = sym (ap plan_refusal e) ∙ P.refusal in
      sort-refused file result work work' clear r (q ∙ sym (plan-refuses file (length result) (length work) (omega (arith, sort-positive r, same_number q))))

  pub sorted-by : (n : ℕ) (result' : List ℕ) (answer : Result ℕ SortRefusal) → plan ≡ Ok n → IsBytes file → RowsSorted (netlist_of file) result result' (sorting_refusal answer) (rows_in answer) → (w : List ℕ) → length w ≡ length work → work' ≡ replicate (length w) 0 → Sorted file result result' work work' answer
  sorted-by n result' answer e bytes D w long clear =
      sort-answered file result work work' (clear ∙ ap (λ (k : ℕ). replicate k 0) long) result' answer bytes (D.refusal ∙ sym (plan-passes file (length result) (length work) (sym P.refusal ∙ ap plan_refusal e)))
      (D.count ∙ ap (λ (q : Refusal). unless_refused q (length (netlist_of file)) 0) (sym D.refusal))
      (D.written ∙ ap (λ (q : Refusal). unless_refused q (file_in (sorted_netlist (netlist_of file)) result) result) (sym D.refusal))
