-- What a refusal of Import means: it is the first no of what Import asks.
-- Assumes nothing.
use Prim.Native.Nat.{ℕ}
use mathlib.Core.Path.{◌≡◌, refl}
use mathlib.Core.Logic.{◌↔◌}
use mathlib.Core.Bool.{true, false, false≢true}
use mathlib.Core.List.{List}
use mathlib.Core.Option.{Option, none, some}
use lib.ListN.{length}
use Rattle.memory.proofs.TestLaws.{leb-iff, and-iff}
use Rattle.netlist.specs.Limits.{most_rows, import_result_bytes, import_work_bytes}
use Rattle.questions.specs.RefusalWords.{RefusalMeans}
use Rattle.questions.proofs.AskedLaws.{once-means, items-means, then-means, last-means}
use Rattle.ordering.specs.SortQuestions.{loop_refusal}
use Rattle.ordering.proofs.SortRefusalMeaning.{loop-means}
use Rattle.aiger.specs.AigerText.{Aiger}
use Rattle.aiger.specs.AigerReading.{read_aiger}
use Rattle.aiger.specs.AigerRows.{text_rows}
use Rattle.aiger.proofs.TextLaws.{reads-writing}
use Rattle.aiger.specs.ImportQuestions.{import_memory_right, is_text, import_refusal}
use Rattle.aiger.specs.ImportRefusalWords.{ImportRoom, TextSays, asked_by_import}

pub import_memory_right-iff : (result work : ℕ) → (import_memory_right result work ≡ true) ↔ ImportRoom result work
import_memory_right-iff result work = and-iff _ _ (leb-iff import_result_bytes result) (leb-iff import_work_bytes work)

-- 24 asks whether the text is read.
pub text-read : (text : List ℕ) → is_text text ≡ true → (a : Aiger) × (read_aiger text ≡ some a)
unfolding is_text
text-read text h = go (read_aiger text) refl h
  where
    go : (o : Option Aiger) → read_aiger text ≡ o → elim o [ none ↦ false | some a ↦ true ] ≡ true → (a : Aiger) × (read_aiger text ≡ some a)
    go none e k = absurd (false≢true k)
    go (some a) e k = (a, e)

pub read-is-text : (text : List ℕ) (a : Aiger) → read_aiger text ≡ some a → is_text text ≡ true
unfolding is_text
read-is-text text a e = rw (e, is_text)

pub is_text-iff : (text : List ℕ) → (is_text text ≡ true) ↔ TextSays text
is_text-iff text = (λ h. let r = text-read text h in (r.0, (reads-writing text r.0).0 r.1), λ s. read-is-text text s.0 ((reads-writing text s.0).1 s.1))

pub import-refusal-means : (text : List ℕ) (result work : ℕ) → RefusalMeans (import_refusal text result work) (asked_by_import text result work)
unfolding import_refusal loop_refusal asked_by_import
import-refusal-means text result work =
    then-means (once-means 22 (import_memory_right-iff result work))
    (then-means (once-means 23 (is_text-iff text))
    (then-means (once-means 24 (leb-iff (length (text_rows text)) most_rows))
    (last-means (items-means (length (text_rows text)) _ _ (loop-means (text_rows text))))))
