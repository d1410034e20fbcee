-- The sorted file, from its parts: the loop that is looked for, the room for numbers and lists, and the rows that are written.
-- Assumes nothing.
use Prim.Native.Nat.{ℕ, ◌-◌, ◌*◌, ◌<◌, ◌≤◌}
use mathlib.Core.Path.{◌≡◌, sym, ap, ◌∙◌, subst}
use mathlib.Core.Bool.{true, cond}
use mathlib.Core.List.{List, ◌++◌}
use native.Mathlib.Omega.{arith}
use lib.ListN.{length, replicate}
use lib.Dec.{ltb}
use borrow.Author.Tests.{lt-ltb, le-ltb, ltb-true}
use Rattle.memory.specs.Lists.{first_from}
use Rattle.memory.proofs.ListLaws.{first-is}
use Rattle.netlist.specs.Rows.{Row}
use Rattle.netlist.specs.FileFormat.{blocks_for, file_of, file_in}
use Rattle.netlist.proofs.FileLaws.{file-length}
use Rattle.questions.specs.Questions.{no_refusal}
use Rattle.ordering.specs.GateOrder.{sorted_netlist}
use Rattle.ordering.specs.SortQuestions.{loop_question, loop_refusal}
use Rattle.ordering.proofs.PlacingLaws.{order_is}
use Rattle.ordering.proofs.LoopLaws.{question-fails, passes-all}
use Rattle.ordering.proofs.InOrder.{sorted-rows}
use Rattle.blockfile.specs.RowsStand.{RowsStand}
use Rattle.gate_rows.specs.Sources.{source_rows, Source}
use Rattle.gate_rows.specs.declared.Layout.{Layout}
use Rattle.row_sorter.specs.Placing.{RowsSorted}

module _ (layout : Layout) (s : List ℕ) (n : ℕ) (S : Source layout s n) where
  abbrev R : List Row
  R = source_rows layout s

  -- The first gate that is never placed is the place of 22; if it is n, there is none.
  module _ (first : ℕ) (f : first ≡ first_from 0 n (λ i. ltb 0 (loop_question R i))) where
    found : first_from 0 (length R) (λ i. ltb 0 (loop_question R i)) ≡ first
    found = ap (λ (k : ℕ). first_from 0 k (λ i. ltb 0 (loop_question R i))) (sym S.count) ∙ sym f

    pub loop-found : first < n → loop_refusal R ≡ record { number = 22; place = first }
    unfolding loop_refusal
    loop-found l =
        let h : first < length R = omega (arith, l, S.count) in
        let F = first-is 0 (length R) (λ i. ltb 0 (loop_question R i)) in
        let q = question-fails R first (ltb-true 0 (loop_question R first) (subst (λ (i : ℕ). ltb 0 (loop_question R i) ≡ true) found (F.holds (omega (arith, found, h))))) in
        rw (found, lt-ltb first (length R) h, q.0)

    pub loop-none : n ≤ first → loop_refusal R ≡ no_refusal
    unfolding loop_refusal
    loop-none h = rw (found, le-ltb first (length R) (omega (arith, h, S.count)))

-- The sorter's answer, and the result that it leaves, in the words of 22.
module _ (layout : Layout) (s : List ℕ) (n : ℕ) (result result' : List ℕ) (first : ℕ) where
  abbrev Found : Type 0
  Found = first ≡ first_from 0 n (λ i. ltb 0 (loop_question (source_rows layout s) i))

  abbrev Left : Type 0
  Left = result' ≡ cond (ltb first n) result (file_in (sorted_netlist (source_rows layout s)) result)

  pub rows-looped : first < n → Found → Left → Source layout s n → RowsSorted (source_rows layout s) result result' (record { number = 22; place = first }) 0
  rows-looped l f w S =
      let e = loop-found layout s n S first f l in
      record { refusal = sym e; count = rw e; written = rw e (w ∙ rw (lt-ltb first n l)) }

  pub rows-sorted : n ≤ first → Found → Left → Source layout s n → RowsSorted (source_rows layout s) result result' no_refusal n
  rows-sorted h f w S =
      let e = loop-none layout s n S first f h in
      record { refusal = sym e; count = rw e S.count; written = rw e (w ∙ rw (le-ltb first n h)) }

-- What is written over the rows in r, where they stand; the result has m bytes.
pub file-written :
    (rows : List Row) (n m : ℕ) (r r' : List ℕ)
    → ((rs : List Row) → length rs ≡ n → RowsStand rs r → r' ≡ file_of rs ++ replicate (length r - 512 * blocks_for n) 0)
    → n ≡ length rows
    → loop_refusal rows ≡ no_refusal
    → RowsStand (sorted_netlist rows) r
    → length r ≡ m
    → r' ≡ file_of (sorted_netlist rows) ++ replicate (m - length (file_of (sorted_netlist rows))) 0
file-written rows n m r r' write count passed stands long =
    let size : length (sorted_netlist rows) ≡ n = sorted-rows rows (order_is rows (passes-all rows passed)) ∙ sym count in
    let bytes : length (file_of (sorted_netlist rows)) ≡ 512 * blocks_for n = file-length (sorted_netlist rows) ∙ ap (λ (k : ℕ). 512 * blocks_for k) size in
    let rest : length r - 512 * blocks_for n ≡ m - length (file_of (sorted_netlist rows)) = omega (arith, long, bytes) in
    write (sorted_netlist rows) size stands ∙ ap (λ (k : ℕ). file_of (sorted_netlist rows) ++ replicate k 0) rest
