-- Sort's outcome by its answer: a refusal changes nothing but work, and a file that is written is accepted and runs as the file given.
-- Assumes nothing.
use Prim.Native.Nat.{ℕ, ◌*◌, ◌<◌}
use mathlib.Core.Path.{◌≡◌, sym, ap, ◌∙◌, subst}
use mathlib.Core.List.{List}
use native.Mathlib.Omega.{arith}
use lib.ListN.{length, replicate}
use Rattle.std.specs.Prelude.{Result, Err}
use lib.Seq.{take_at}
use Rattle.memory.specs.Fields.{IsBytes}
use Rattle.netlist.specs.FileFormat.{netlist_of, blocks_for, file_of, file_in, file_left}
use Rattle.netlist.proofs.FileLaws.{file-length}
use Rattle.questions.specs.Questions.{no_refusal, unless_refused}
use Rattle.questions.proofs.QuestionLaws.{number-some}
use Rattle.ordering.specs.GateOrder.{sorted_netlist}
use Rattle.ordering.specs.SortQuestions.{sort_refusal}
use Rattle.ordering.specs.SortGuarantee.{SortGuarantee}
use Rattle.ordering.proofs.SortPromise.{sort-guarantee}
use Rattle.accept.proofs.RefusalLaws.{number-positive}
use Rattle.sort_answers.specs.SortAnswers.{sort_refusal_in, sorting_refusal, rows_in}
use Rattle.sort_answers.specs.SortOutcome.{LeftSorted, Sorted}
use Rattle.sort_answers.specs.declared.SortRefusal.{SortRefusal}
use Rattle.sort_answers.specs.declared.SortRefusal.TheVariants.{File, Memory, Loop}

-- A refusal has a number.
pub sort-positive : (r : SortRefusal) → 0 < (sort_refusal_in r).number
sort-positive (File r) = number-positive r
sort-positive Memory = omega arith
sort-positive (Loop i) = omega arith

module _ (file result work work' : List ℕ) (clear : work' ≡ replicate (length work) 0) where
  pub sort-refused : (r : SortRefusal) → sort_refusal_in r ≡ sort_refusal file (length result) (length work) → Sorted file result result work work' (Err r)
  sort-refused r e =
      let Some-number = number-some (sort_refusal_in r) (sort-positive r) in
      record {
        refusal = e;
        rows = rw Some-number.0;
        written = rw Some-number.0;
        cleared = clear;
        guarantee = λ z. absurd (Some-number.1 z);
        left = λ z. absurd (Some-number.1 z);
      }

  module _ (result' : List ℕ) (answer : Result ℕ SortRefusal) (bytes : IsBytes file) (e : sorting_refusal answer ≡ sort_refusal file (length result) (length work)) (count : rows_in answer ≡ unless_refused (sorting_refusal answer) (length (netlist_of file)) 0)
      (written : result' ≡ unless_refused (sorting_refusal answer) (file_in (sorted_netlist (netlist_of file)) result) result) where
    guaranteed : sorting_refusal answer ≡ no_refusal → SortGuarantee file
    guaranteed z = sort-guarantee file bytes (length result) (length work) (sym e ∙ z)

    left_is : sorting_refusal answer ≡ no_refusal → LeftSorted file (file_left result' (rows_in answer))
    left_is z =
        let G = guaranteed z in
        let new = sorted_netlist (netlist_of file) in
        let n : rows_in answer ≡ length (netlist_of file) = count ∙ rw z in
        let w : result' ≡ file_in new result = written ∙ rw z in
        let size : length (file_of new) ≡ 512 * blocks_for (length (netlist_of file)) = file-length new ∙ ap (λ (m : ℕ). 512 * blocks_for m) G.rows in
        rw (w, n) (subst (LeftSorted file) (sym (take_at (file_of new) _ (512 * blocks_for (length (netlist_of file))) size)) (record { accepted = G.accepted; runs = rw G.read_back G.runs }))

    pub sort-answered : Sorted file result result' work work' answer
    sort-answered = record { refusal = e; rows = count; written = written; cleared = clear; guarantee = guaranteed; left = left_is }
