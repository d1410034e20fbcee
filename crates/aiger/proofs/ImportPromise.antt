-- What an import that is not refused guarantees.
-- Assumes nothing.
use Prim.Native.Nat.{ℕ, ◌≤◌}
use mathlib.Core.Path.{◌≡◌, subst}
use mathlib.Core.List.{List, [], ◌∷◌}
use mathlib.Core.Option.{some}
use lib.ListN.{length}
use lib.Dec.{leb}
use borrow.Author.Tests.{leb-true}
use Rattle.netlist.specs.Limits.{most_rows}
use Rattle.netlist.specs.Rows.{Row}
use Rattle.questions.specs.Questions.{no_refusal, question}
use Rattle.questions.proofs.QuestionLaws.{all_none, number-none, question-none}
use Rattle.questions.proofs.WriteThenRead.{writable-read, writable-accepted, writable-bytes}
use Rattle.ordering.specs.GateOrder.{sorted_netlist}
use Rattle.ordering.specs.SortQuestions.{loop_refusal}
use Rattle.ordering.proofs.PlacingLaws.{order_is, order-low}
use Rattle.ordering.proofs.LoopLaws.{passes-zero}
use Rattle.ordering.proofs.InOrder.{sorted-rows}
use Rattle.ordering.proofs.SortPromise.{sorted-writable}
use Rattle.aiger.specs.AigerText.{Aiger}
use Rattle.aiger.specs.AigerReading.{read_aiger}
use Rattle.aiger.specs.AigerRows.{aiger_rows, text_rows}
use Rattle.aiger.specs.ImportQuestions.{import_memory_right, is_text, import_refusal}
use Rattle.aiger.specs.ImportGuarantee.{ImportGuarantee}
use Rattle.aiger.proofs.TextLaws.{reads-writing}
use Rattle.aiger.proofs.NodeLaws.{row-places, node-facts}
use Rattle.aiger.proofs.RowLaws.{right-parts, aiger-labels, aiger-unordered}
use Rattle.aiger.proofs.RunLaws.{import-keeps}
use Rattle.aiger.proofs.ImportRefusalMeaning.{text-read}

-- ---- what the questions say

pub record ImportRight (text : List ℕ) : Type 0 where
  pub aiger : Aiger
  pub reads : read_aiger text ≡ some aiger
  pub few : length (aiger_rows aiger) ≤ most_rows
  pub free : (loop_refusal (aiger_rows aiger)).number ≡ 0

-- The rows of a text that is read.
pub rows-of-text : (text : List ℕ) (a : Aiger) → read_aiger text ≡ some a → text_rows text ≡ aiger_rows a
unfolding text_rows
rows-of-text text a e = rw (e, text_rows)

pub import-right : (text : List ℕ) (result work : ℕ) → import_refusal text result work ≡ no_refusal → ImportRight text
unfolding import_refusal
import-right text result work h =
    let q = all_none (question 23 (import_memory_right result work) ∷ question 24 (is_text text) ∷ question 25 (leb (length (text_rows text)) most_rows) ∷ loop_refusal (text_rows text) ∷ []) (number-none (import_refusal text result work) h) in
    let r = text-read text (question-none 23 (is_text text) q.1.0) in
    let e = rows-of-text text r.0 r.1 in
    record {
      aiger = r.0;
      reads = r.1;
      few = subst (λ (rows : List Row). length rows ≤ most_rows) e (leb-true (length (text_rows text)) most_rows (question-none 24 (leb (length (text_rows text)) most_rows) q.1.1.0));
      free = subst (λ (rows : List Row). (loop_refusal rows).number ≡ 0) e q.1.1.1.0;
    }

-- ---- the guarantee

pub import-guarantee : (text : List ℕ) (result work : ℕ) → import_refusal text result work ≡ no_refusal → ImportGuarantee text
import-guarantee text result work h =
    let R = import-right text result work h in
    let a = R.aiger in
    let rows = aiger_rows a in
    let T = (reads-writing text a).0 R.reads in
    let e = rows-of-text text a R.reads in
    let O = order_is rows (passes-zero rows R.free) in
    let P = right-parts a T.right in
    let U = aiger-unordered a T.right in
    let w = sorted-writable rows U O R.few (aiger-labels a R.few) in
    record {
      aiger = a;
      says = T;
      rows = e;
      ordered = rw e O;
      lowest = order-low (text_rows text);
      count = rw e (sorted-rows rows O);
      few = rw e w.few;
      bytes = rw e (writable-bytes (sorted_netlist rows) w);
      accepted = rw e (writable-accepted (sorted_netlist rows) w);
      read_back = rw e (writable-read (sorted_netlist rows) w);
      keeps = rw e (import-keeps a (row-places a) (node-facts a P.lines P.distinct P.defined) U O);
    }
