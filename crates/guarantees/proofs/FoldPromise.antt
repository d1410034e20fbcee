-- The guarantee of an accepted fold, from the file's bytes and Fold's questions alone.
-- Assumes nothing.
use Prim.Native.Nat.{ℕ, ◌<◌, ◌^◌}
use mathlib.Core.Path.{◌≡◌, refl, ap}
use mathlib.Core.Bool.{Bool, true, false}
use mathlib.Core.List.{List}
use native.Mathlib.Omega.{arith}
use lib.ListN.{length}
use Rattle.memory.specs.Fields.{IsBytes}
use Rattle.netlist.specs.Rows.{Row, row_at, label_of, has_name}
use Rattle.netlist.specs.FileFormat.{netlist_of}
use Rattle.netlist.proofs.RowLaws.{unnamed}
use Rattle.netlist.proofs.FileLaws.{file-length, file-labels}
use Rattle.abstraction.specs.Fold.{FoldAnswer, fold_from_lasso}
use Rattle.abstraction.proofs.FoldLaws.{AnswerRight, fold-answers, answer-right}
use Rattle.questions.specs.Questions.{no_refusal}
use Rattle.fold_questions.specs.FoldQuestions.{fold_refusal}
use Rattle.questions.proofs.AcceptedFiles.{file-checked}
use Rattle.fold_questions.proofs.FoldAccepted.{fold-right, rows-foldable}
use Rattle.questions.specs.RoundTrips.{Writable}
use Rattle.guarantees.specs.FoldGuarantee.{FoldGuarantee}
use Rattle.questions.proofs.WriteThenRead.{writable-read, writable-accepted, writable-bytes}
use Rattle.questions.proofs.ShapePasses.{shape-passes}

module _ (rows : List Row) (wish : ℕ) (answer : FoldAnswer) (right : AnswerRight rows wish answer) (labels : (x : ℕ) → x < length rows → label_of (row_at rows x) < 2 ^ 16) where
  -- A named row has the label of a row of the original, and the others have label 0.
  label_small : (y : ℕ) → y < length answer.rows → label_of (row_at answer.rows y) < 2 ^ 16
  label_small y h = go (has_name (row_at answer.rows y)) refl
    where
      go : (t : Bool) → has_name (row_at answer.rows y) ≡ t → label_of (row_at answer.rows y) < 2 ^ 16
      go true e = let o = right.origins y h e in omega (arith, o.2, labels o.0 o.1)
      go false e = omega (arith, ap (λ (n : ℕ × ℕ). n.0) (unnamed (row_at answer.rows y) e))

  answer-writable : Writable answer.rows
  answer-writable = record { few = omega (arith, right.rows-le); pass = shape-passes answer.rows answer.phases right.shape right.phases-le; labels = label_small }

pub fold-guarantee : (file : List ℕ) → IsBytes file → (wish result work clocks : ℕ) → fold_refusal file wish result work clocks ≡ no_refusal → FoldGuarantee file wish
fold-guarantee file bytes wish result work clocks h =
    let F = fold-right file wish result work clocks (rw h) in
    let rows = netlist_of file in
    let ok = rows-foldable rows (file-checked file F.file-right) F.original in
    let answer = fold_from_lasso rows wish F.lasso in
    let right = answer-right rows wish F.lasso F.found ok F.wish-small in
    let w = answer-writable rows wish answer right (file-labels file bytes) in
    record {
      answer = answer;
      folds = fold-answers rows wish F.lasso F.found;
      words = right.words;
      phases = (right.phases-pos, right.phases-le);
      rows = (right.shape.some-row, right.rows-le);
      fits = omega (arith, file-length answer.rows, right.rows-le);
      clocks-fit = omega (arith, right.clocks-le, F.original.registers);
      bytes = writable-bytes answer.rows w;
      accepted = writable-accepted answer.rows w;
      read_back = writable-read answer.rows w;
      stands = right.stands;
      behaves = right.behaves;
    }
