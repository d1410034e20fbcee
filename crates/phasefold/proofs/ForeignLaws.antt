-- Count's answer as C callers get it.
-- Assumes nothing.
use Prim.Native.Nat.{ℕ}
use mathlib.Core.Path.{◌≡◌, refl, sym, ap, ◌∙◌}
use mathlib.Core.List.{List}
use native.Mathlib.Omega.{arith}
use lib.ListN.{length}
use borrow.Author.Tests.{ne_eqb}
use Rattle.std.specs.Prelude.{Result, Ok, Err}
use Rattle.netlist.specs.Limits.{most_rows}
use Rattle.netlist.specs.FileFormat.{netlist_of}
use Rattle.questions.specs.Questions.{no_refusal, file_refusal, counts_of}
use Rattle.blockfile.specs.CountCode.{counts_in, EachAtMost}
use Rattle.blockfile.proofs.ReadyLaws.{rows_of}
use Rattle.blockfile.proofs.CountLaws.{counts-small, most-more, counts_all}
use Rattle.blockfile.specs.declared.count.Counts as code
use Rattle.accept.specs.Refusals.{number_of, refusal_in}
use Rattle.accept.specs.declared.FileRefusal.{FileRefusal}
use Rattle.accept.proofs.RefusalLaws.{number-positive}
use Rattle.count.specs.CountOutcome.{count_refusal, counts_answered, Counted}
use Rattle.c_answers.specs.AnswerNumbers.{accepted_counts, refused_counts}
use Rattle.c_answers.specs.declared.PfCounts.{PfCounts}
use Rattle.phasefold.specs.ForeignAnswers.{count_numbers}

module _ (file : List ℕ) (a : Result code.Counts FileRefusal) (C : Counted file a) where
  module _ (c : code.Counts) (e : a ≡ Ok c) where
    none : file_refusal file ≡ no_refusal
    none = sym C.refusal ∙ ap count_refusal e

    counts-are : counts_in c ≡ counts_of (netlist_of file)
    counts-are = sym (ap counts_answered e) ∙ C.counts none

    pub counts-fit : EachAtMost (counts_in c) most_rows
    counts-fit =
        let n = length (netlist_of file) in
        most-more (counts_in c) n most_rows (rows_of file none).few (counts-small (netlist_of file) n (counts_in c) (counts-are ∙ sym (counts_all (netlist_of file) n refl)))

    pub count-flat : (r : PfCounts) → r ≡ accepted_counts (counts_in c) → r ≡ count_numbers file
    count-flat r h = rw none (h ∙ ap accepted_counts counts-are)

  pub count-refused-flat : (q : FileRefusal) (r : PfCounts) → a ≡ Err q → r ≡ refused_counts (refusal_in q) → r ≡ count_numbers file
  count-refused-flat q r e h =
      let k : file_refusal file ≡ refusal_in q = sym C.refusal ∙ ap count_refusal e in
      rw (h, k, ne_eqb (number_of q) 0 (λ z. omega (arith, number-positive q, z))) refl
