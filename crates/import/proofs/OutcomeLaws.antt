-- What the parts of Import answer, in the words of its questions, and its whole outcome.
-- Assumes nothing.
use Prim.Native.Nat.{ℕ, ◌+◌, ◌*◌, ◌<◌, ◌≤◌}
use mathlib.Core.Path.{◌≡◌, refl, sym, ap, ◌∙◌, subst}
use mathlib.Core.Bool.{Bool, true, false, cond, not, ◌&&◌, false≢true}
use mathlib.Core.Logic.{◌⊎◌, inl, inr}
use mathlib.Core.List.{List}
use mathlib.Core.Option.{some, none}
use native.Mathlib.Omega.{arith}
use lib.ListN.{length, drop, replicate}
use lib.Dec.{leb}
use borrow.Author.Tests.{leb-true, leb-false, le-leb, lt-leb, not-true, not-false}
use Rattle.std.specs.Prelude.{Option, Some, None, Result, Err}
use Rattle.netlist.specs.Limits.{most_rows, row_work_bytes, import_result_bytes, import_work_bytes}
use Rattle.netlist.specs.FileFormat.{blocks_for, file_in}
use Rattle.netlist.proofs.WorkLaws.{work-most}
use Rattle.questions.specs.Questions.{Refusal, unless_refused}
use Rattle.ordering.specs.GateOrder.{sorted_netlist}
use Rattle.ordering.specs.SortQuestions.{loop_refusal}
use Rattle.ordering.proofs.LoopLaws.{loop-last}
use Rattle.aiger.specs.AigerText.{line_count, is_distinct, is_defined, aiger_right}
use Rattle.aiger.specs.AigerReading.{header, read_lines, read_aiger}
use Rattle.aiger.specs.AigerRows.{aiger_rows, text_rows}
use Rattle.aiger.specs.ImportQuestions.{import_memory_right, is_text, import_refusal}
use Rattle.aiger.proofs.TextLaws.{reads-writing}
use Rattle.aiger.proofs.NodeLaws.{row-places}
use Rattle.aiger.proofs.ImportRefusalMeaning.{import_memory_right-iff, read-is-text}
use Rattle.aiger.proofs.ImportPromise.{rows-of-text}
use Rattle.gate_rows.specs.Sources.{source_rows, Source}
use Rattle.gate_rows.specs.declared.Layout.{Layout}
use Rattle.gate_rows.specs.declared.Layout.TheVariants as layout
use Rattle.row_sorter.specs.Placing.{RowsSorted}
use Rattle.aiger_lines.specs.Lines.{header_in, headed_read, aiger_in, lines_stand, FewHeader, FewHeaded, Counted}
use Rattle.aiger_lines.specs.declared.Header.{Header}
use Rattle.aiger_lines.proofs.ReadingLaws.{after_none}
use Rattle.aiger_lines.proofs.LineLaws.{none-stands, counted-lines, lines-text}
use Rattle.aiger_names.specs.Names.{name_bytes, NamesRoom, PairsStand}
use Rattle.import_answers.specs.ImportAnswers.{importing_refusal, rows_in}
use Rattle.import_answers.specs.ImportOutcome.{Imported}
use Rattle.import_answers.specs.declared.ImportRefusal.{ImportRefusal}
use Rattle.import_answers.specs.declared.ImportRefusal.TheVariants.{Memory, Text, Rows}
use Rattle.import_answers.proofs.ImportedLaws.{import-refused, import-answered}
use Rattle.import.specs.ImportParts.{pairs_in, text_refusal, TextImported}
use Rattle.import.proofs.PairRowLaws.{source-are, text-source}

-- The result has room for the file of rows that fit one.
pub file-room : (layout : Layout) (s : List ℕ) (n : ℕ) (result : List ℕ) → Source layout s n → import_result_bytes ≤ length result → 512 * blocks_for n ≤ length result
file-room layout s n result S h = omega (arith, S.few, h)

-- Work has room for the slots of any file.
pub slots-room : (n work : ℕ) → import_work_bytes ≤ work → row_work_bytes n ≤ work
slots-room n work h = omega (arith, work-most n, h)

-- Rows fit a file or not, and the tree of names stands behind their pairs.
pub names-room : (x : Header) (k : ℕ) (fits : Bool) (base : ℕ) (w : List ℕ) → k ≡ line_count (header_in x) → fits ≡ leb (1 + k) most_rows → base ≡ cond fits (4 * (1 + k)) 0 → name_bytes ≤ length w → NamesRoom (header_in x) fits base w
names-room x k fits base w e f b long = go fits f b
  where
    go : (t : Bool) → t ≡ leb (1 + k) most_rows → base ≡ cond t (4 * (1 + k)) 0 → NamesRoom (header_in x) t base w
    go true f b = let h = leb-true (1 + k) most_rows (sym f) in record { long = long; small = omega (arith, b, h); pairs = λ _. (omega (arith, b, e), omega (arith, e, h)) }
    go false f b = record { long = long; small = omega (arith, b); pairs = λ z. absurd (false≢true z) }

module _ (text : List ℕ) where
  -- ---- 24

  unread : read_aiger text ≡ none → is_text text ≡ false
  unfolding is_text
  unread e = rw (e, is_text)

  other_text : is_text text ≡ false → text_refusal text ≡ record { number = 24; place = 0 }
  unfolding text_refusal
  other_text h = rw h

  pub text-refused : (result : List ℕ) → is_text text ≡ false → TextImported text result result (Err Text)
  text-refused result h = let e = other_text h in record { refusal = sym e; rows = rw e; written = rw e }

  lines_other : lines_stand text ≡ false → is_text text ≡ false
  lines_other h = unread (lines-text text ∙ rw h)

  unheaded : header text ≡ none → lines_stand text ≡ false
  unfolding read_lines
  unheaded h = none-stands text (after_none header _ text h)

  pub header_refused : (result : List ℕ) (r : Option (Header × ℕ)) → headed_read text r ≡ header text → r ≡ None → TextImported text result result (Err Text)
  header_refused result r e o = text-refused result (lines_other (unheaded (sym e ∙ ap (headed_read text) o)))

  pub lines-refused : (result : List ℕ) (r : Bool) → r ≡ lines_stand text → r ≡ false → TextImported text result result (Err Text)
  lines-refused result r e o = text-refused result (lines_other (sym e ∙ o))

  module _ (stand : lines_stand text ≡ true) (r : Bool) (names : r ≡ is_distinct (aiger_in text) && is_defined (aiger_in text)) where
    pub names-refused : (result : List ℕ) → not r ≡ true → TextImported text result result (Err Text)
    names-refused result o = text-refused result (unread (lines-text text ∙ rw (stand, sym names ∙ not-true r o)))

    module _ (o : not r ≡ false) where
      -- ---- the text is one

      said : read_aiger text ≡ some (aiger_in text)
      said = lines-text text ∙ rw (stand, sym names ∙ not-false r o)

      pub said-right : aiger_right (aiger_in text) ≡ true
      said-right = ((reads-writing text (aiger_in text)).0 said).right

      rows_are : text_rows text ≡ aiger_rows (aiger_in text)
      rows_are = rows-of-text text (aiger_in text) said

      count-is : length (text_rows text) ≡ 1 + line_count (aiger_in text).header
      count-is = let n = (row-places (aiger_in text)).count in ap length rows_are ∙ omega (arith, n)

      many : most_rows < length (text_rows text) → text_refusal text ≡ record { number = 25; place = 0 }
      unfolding text_refusal
      many h = rw (read-is-text text (aiger_in text) said, lt-leb (length (text_rows text)) most_rows h)

      few : length (text_rows text) ≤ most_rows → text_refusal text ≡ loop_refusal (text_rows text)
      unfolding text_refusal
      few h = rw (read-is-text text (aiger_in text) said, le-leb (length (text_rows text)) most_rows h) (loop-last (text_rows text))

      -- The rows that stand as pairs are those of the text.
      pub rows-stand : (x : Header) → header_in x ≡ (aiger_in text).header → (w : List ℕ) → PairsStand (aiger_in text) w → source_rows (layout.Pairs (pairs_in x)) w ≡ text_rows text
      rows-stand x is w S = source-are (aiger_in text) w S x is ∙ sym rows_are

      module _ (x : Header) (is : header_in x ≡ (aiger_in text).header) (n : ℕ) (e : n ≡ 1 + line_count (header_in x)) (result result' : List ℕ) where
        all : length (text_rows text) ≡ n
        all = omega (arith, count-is, e, ap line_count is)

        pub rows-refused : most_rows < n → TextImported text result result (Err Rows)
        rows-refused h = let k = many (omega (arith, all, h)) in record { refusal = sym k; rows = rw k; written = rw k }

        pub rows-imported : n ≤ most_rows → (w : List ℕ) → PairsStand (aiger_in text) w → (answer : Result ℕ ImportRefusal) → RowsSorted (source_rows (layout.Pairs (pairs_in x)) w) result result' (importing_refusal answer) (rows_in answer) → TextImported text result result' answer
        rows-imported h w S answer D =
            let k = few (omega (arith, all, h)) in
            let D' : RowsSorted (text_rows text) result result' (importing_refusal answer) (rows_in answer) = rw (← rows-stand x is w S) D in
            record { refusal = D'.refusal ∙ sym k; rows = rw k D'.count; written = rw k D'.written }

-- ---- what `import_lines` knows: the text's lines stand, x is their header, n counts the rows, r says whether the names are right

module _ (text : List ℕ) (x : Header) (from : ℕ) (C : Counted text x from) (r : Bool) (names : r ≡ is_distinct (aiger_in text) && is_defined (aiger_in text)) where
  pub lines-unnamed : (result : List ℕ) → not r ≡ true → TextImported text result result (Err Text)
  lines-unnamed result o = names-refused text C.stand r names result o

  module _ (o : not r ≡ false) (k : ℕ) (e : k ≡ line_count (header_in x)) where
    all-rows : 1 + k ≡ 1 + line_count (header_in x)
    all-rows = ap (λ (m : ℕ). 1 + m) e

    pub lines-many : (result : List ℕ) → not (leb (1 + k) most_rows) ≡ true → TextImported text result result (Err Rows)
    lines-many result t = rows-refused text C.stand r names o x C.header (1 + k) all-rows result result (leb-false (1 + k) most_rows (not-true (leb (1 + k) most_rows) t))

    module _ (t : not (leb (1 + k) most_rows) ≡ false) (w : List ℕ) (S : r ≡ true → leb (1 + k) most_rows ≡ true → PairsStand (aiger_in text) w) where
      few-rows : 1 + k ≤ most_rows
      few-rows = leb-true (1 + k) most_rows (not-false (leb (1 + k) most_rows) t)

      stand : PairsStand (aiger_in text) w
      stand = S (not-false r o) (not-false (leb (1 + k) most_rows) t)

      pub lines-source : (w₀ : List ℕ) → length w ≡ length w₀ → name_bytes ≤ length w₀ → Source (layout.Pairs (pairs_in x)) w (1 + k)
      lines-source w₀ same long = text-source (aiger_in text) w stand x C.header (said-right text C.stand r names o) (1 + k) all-rows few-rows (omega (arith, same, long))

      pub lines-imported : (result result' : List ℕ) (answer : Result ℕ ImportRefusal) → RowsSorted (source_rows (layout.Pairs (pairs_in x)) w) result result' (importing_refusal answer) (rows_in answer) → TextImported text result result' answer
      lines-imported result result' answer D = rows-imported text C.stand r names o x C.header (1 + k) all-rows result result' few-rows w stand answer D

-- ---- what `import_text` knows

module _ (text : List ℕ) (d : Option (Header × ℕ)) (e : headed_read text d ≡ header text) (F : FewHeaded text d) (x : Header) (from : ℕ) (is : d ≡ Some (x, from)) where
  few-is : FewHeader x × (from ≤ length text)
  few-is = subst (FewHeaded text) is F

  pub header_is : header text ≡ some (header_in x, drop from text)
  header_is = sym e ∙ ap (headed_read text) is

  pub header-inside : from ≤ length text
  header-inside = few-is.1

  pub header-few : FewHeader x
  header-few = few-is.0

  pub header-counted : (r : Bool) → r ≡ lines_stand text → r ≡ true → Counted text x from
  header-counted r s t = counted-lines text x from header_is few-is.1 few-is.0 (sym s ∙ t)

-- ---- the outcome

module _ (text result work work' : List ℕ) (clear : work' ≡ replicate (length work) 0) where
  refused : import_memory_right (length result) (length work) ≡ false → Imported text result result work work' (Err Memory)
  unfolding import_refusal
  refused short = import-refused text result work work' clear Memory (rw short)

  -- Work is short, or the result.
  pub memory-refused : (import_result_bytes ≤ length result × length work < import_work_bytes) ⊎ (length result < import_result_bytes) → Imported text result result work work' (Err Memory)
  memory-refused (inl h) = refused (rw (le-leb import_result_bytes (length result) h.0, lt-leb import_work_bytes (length work) h.1))
  memory-refused (inr h) = refused (rw (lt-leb import_result_bytes (length result) h))

module _ (text result work : List ℕ) (result-long : import_result_bytes ≤ length result) (work-long : import_work_bytes ≤ length work) (result' : List ℕ) (answer : Result ℕ ImportRefusal) (D : TextImported text result result' answer) where
  refusal_is : importing_refusal answer ≡ import_refusal text (length result) (length work)
  unfolding import_refusal text_refusal
  refusal_is = D.refusal ∙ sym (let yes : import_memory_right (length result) (length work) ≡ true = (import_memory_right-iff (length result) (length work)).1 (result-long, work-long) in rw yes refl)

  pub text-imported : (w work' : List ℕ) → length w ≡ length work → work' ≡ replicate (length w) 0 → Imported text result result' work work' answer
  text-imported w work' long clear =
      import-answered text result work work' (clear ∙ ap (λ (k : ℕ). replicate k 0) long) result' answer refusal_is (D.rows ∙ ap (λ (q : Refusal). unless_refused q (length (text_rows text)) 0) (sym D.refusal))
      (D.written ∙ ap (λ (q : Refusal). unless_refused q (file_in (sorted_netlist (text_rows text)) result) result) (sym D.refusal))
