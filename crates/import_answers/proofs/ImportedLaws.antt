-- Import's outcome by its answer: a refusal changes nothing but work, and a file that is written is accepted and runs as the text says.
-- Assumes nothing.
use Prim.Native.Nat.{ℕ, ◌*◌, ◌<◌}
use mathlib.Core.Path.{◌≡◌, sym, ap, ◌∙◌, subst}
use mathlib.Core.List.{List}
use native.Mathlib.Omega.{arith}
use lib.ListN.{length, replicate}
use lib.Seq.{take_at}
use Rattle.std.specs.Prelude.{Result, Err}
use Rattle.netlist.specs.FileFormat.{blocks_for, file_of, file_in, file_left}
use Rattle.netlist.proofs.FileLaws.{file-length}
use Rattle.questions.specs.Questions.{no_refusal, unless_refused}
use Rattle.questions.proofs.QuestionLaws.{number-some}
use Rattle.ordering.specs.GateOrder.{sorted_netlist}
use Rattle.aiger.specs.AigerRows.{text_rows}
use Rattle.aiger.specs.ImportQuestions.{import_refusal}
use Rattle.aiger.specs.ImportGuarantee.{ImportGuarantee}
use Rattle.aiger.proofs.ImportPromise.{import-guarantee}
use Rattle.import_answers.specs.ImportAnswers.{import_refusal_in, importing_refusal, rows_in}
use Rattle.import_answers.specs.ImportOutcome.{LeftImported, Imported}
use Rattle.import_answers.specs.declared.ImportRefusal.{ImportRefusal}
use Rattle.import_answers.specs.declared.ImportRefusal.TheVariants.{Memory, Text, Rows, Loop}

-- A refusal has a number.
import-positive : (r : ImportRefusal) → 0 < (import_refusal_in r).number
import-positive Memory = omega arith
import-positive Text = omega arith
import-positive Rows = omega arith
import-positive (Loop i) = omega arith

module _ (text result work work' : List ℕ) (clear : work' ≡ replicate (length work) 0) where
  pub import-refused : (r : ImportRefusal) → import_refusal_in r ≡ import_refusal text (length result) (length work) → Imported text result result work work' (Err r)
  import-refused r e =
      let Some-number = number-some (import_refusal_in r) (import-positive r) in
      record {
        refusal = e;
        rows = rw Some-number.0;
        written = rw Some-number.0;
        cleared = clear;
        guarantee = λ z. absurd (Some-number.1 z);
        left = λ z. absurd (Some-number.1 z);
      }

  module _ (result' : List ℕ) (answer : Result ℕ ImportRefusal) (e : importing_refusal answer ≡ import_refusal text (length result) (length work)) (count : rows_in answer ≡ unless_refused (importing_refusal answer) (length (text_rows text)) 0)
      (written : result' ≡ unless_refused (importing_refusal answer) (file_in (sorted_netlist (text_rows text)) result) result) where
    guaranteed : importing_refusal answer ≡ no_refusal → ImportGuarantee text
    guaranteed z = import-guarantee text (length result) (length work) (sym e ∙ z)

    left_is : importing_refusal answer ≡ no_refusal → LeftImported text (file_left result' (rows_in answer))
    left_is z =
        let G = guaranteed z in
        let new = sorted_netlist (text_rows text) in
        let n : rows_in answer ≡ length (text_rows text) = count ∙ rw z in
        let w : result' ≡ file_in new result = written ∙ rw z in
        let size : length (file_of new) ≡ 512 * blocks_for (length (text_rows text)) = file-length new ∙ ap (λ (m : ℕ). 512 * blocks_for m) G.count in
        rw (w, n) (subst (LeftImported text) (sym (take_at (file_of new) _ (512 * blocks_for (length (text_rows text))) size)) (record { accepted = G.accepted; aiger = G.aiger; says = G.says; keeps = rw G.read_back G.keeps }))

    pub import-answered : Imported text result result' work work' answer
    import-answered = record { refusal = e; rows = count; written = written; cleared = clear; guarantee = guaranteed; left = left_is }
