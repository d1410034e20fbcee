-- What an operation that refuses nothing was given, and that it refuses nothing where it is given that: Check, Fold, Run and Show.
-- Of the rows, in plain words: CheckedRows (questions 6 to 10), FoldableRows (6 to 13).
-- Assumes nothing.
use Prim.Native.Nat.{ℕ, ◌+◌, ◌-◌, ◌*◌, ◌<◌, ◌≤◌, ◌/◌}
use mathlib.Core.Path.{◌≡◌, refl, sym, ap, ◌∙◌, subst}
use mathlib.Core.Logic.{◌↔◌}
use mathlib.Core.Bool.{Bool, true, false, ◌&&◌, false≢true}
use mathlib.Core.List.{List, [], ◌∷◌, map}
use native.Mathlib.Omega.{arith}
use native.Mathlib.Decide.{dec_lt}
use lib.ListN.{length, length-map, get_or-map}
use lib.Dec.{ltb, leb}
use borrow.Author.Tests.{ltb-true, lt-ltb}
use Rattle.memory.specs.Lists.{count_if}
use Rattle.memory.specs.Fields.{byte_at}
use Rattle.memory.proofs.ListLaws.{count-some}
use Rattle.netlist.specs.Limits.{most_phases, most_steps, most_rows}
use Rattle.netlist.specs.Rows.{Row, constant, input, register, and_gate, xor_gate, mux_gate, output, RowFields, encode_row, row_from_fields, decode_row, row_at, kind_of, phase_of, has_name, is_output}
use Rattle.netlist.specs.FileFormat.{block_count, block_at, fields_of, fields_at, netlist_of, blocks_for}
use Rattle.netlist.proofs.RowLaws.{output-is, named-alike}
use Rattle.netlist.specs.WellFormed.{CheckedBy, CheckedRows, Unordered, UnorderedRows, SameName, OperandsBelow, Ordered, NextBelow, ResetIn, NamesNode, OnLiterals, NamesUnique}
use Rattle.netlist.proofs.FileLaws.{block-at, read_length}
use Rattle.questions.specs.Questions.{Refusal, no_refusal, question, item_questions, length_right, sum_right, head_right, count_right, unused_right, block_questions, kind_right, fields_right, label_is_new, names_earlier, names_anywhere, literals_right, row_questions, rows_refusal, file_refusal_with, file_refusal, unordered_refusal, value_lists_right, all_binary, run_memory_right, run_refusal, show_refusal}
use Rattle.questions.proofs.QuestionLaws.{all_none, all_yes, ◌then◌, number-none, question-none, question-of, items-none, items-yes, passed, passed-of}
use Rattle.questions.specs.QuestionWords.{LengthWords, KindWords, FieldsWords, NamesEarlierNode}
use Rattle.questions.proofs.PlainWords.{length_right-iff, BlockWords, sum_right-iff, head_right-iff, count_right-iff, unused_right-iff, kind_right-iff, fields_right-iff, label_is_new-iff, literals_right-iff, literal_words-iff, unordered_words-iff, names_earlier-iff, names_anywhere-iff}

-- What a gate's operands may name.
abbrev pub Operand : Type 0
Operand = List Row → ℕ → ℕ → Bool

-- ---- 6 to 10: the rows alone

-- The tests of row i are passed.
pub record RowRight (operand : Operand) (ws : List RowFields) (i : ℕ) : Type 0 where
  pub kind : kind_right ws (map decode_row ws) i ≡ true
  pub fields : fields_right (fields_at ws i).kind (fields_at ws i).reset (fields_at ws i).a (fields_at ws i).b (fields_at ws i).c ≡ true
  pub label : label_is_new (map decode_row ws) i ≡ true
  pub literals : literals_right operand (map decode_row ws) i (row_at (map decode_row ws) i) ≡ true

abbrev pub EachRowRight : Operand → List RowFields → Type 0
EachRowRight operand ws = (i : ℕ) → i < length ws → RowRight operand ws i

-- Each row's, and there is an output.
pub record RowsRight (operand : Operand) (ws : List RowFields) : Type 0 where
  pub rows : EachRowRight operand ws
  pub some-output : 0 < count_if is_output (map decode_row ws)

module _ (operand : Operand) (ws : List RowFields) where
  pub row-right : (i : ℕ) → row_questions operand ws i ≡ 0 → RowRight operand ws i
  unfolding row_questions
  row-right i h =
      let k = passed (kind_right ws (map decode_row ws) i) _ _ h in
      let f = passed _ _ _ k.1 in
      let l = passed _ _ _ f.1 in
      record { kind = k.0; fields = f.0; label = l.0; literals = (passed _ _ _ l.1).0 }

  pub row-yes : (i : ℕ) → RowRight operand ws i → row_questions operand ws i ≡ 0
  unfolding row_questions
  row-yes i R = passed-of _ _ _ R.kind (passed-of _ _ _ R.fields (passed-of _ _ _ R.label (passed-of _ _ _ R.literals refl)))

  abbrev rows_asked : List Refusal
  rows_asked = item_questions (length ws) (row_questions operand ws) ∷ question 10 (ltb 0 (count_if is_output (map decode_row ws))) ∷ []

  pub rows_right : (rows_refusal operand ws).number ≡ 0 → RowsRight operand ws
  unfolding rows_refusal
  rows_right h =
      let q = all_none rows_asked h in
      record {
        rows = λ i l. row-right i (items-none (length ws) (row_questions operand ws) q.0 i l);
        some-output = ltb-true 0 _ (question-none 9 _ q.1.0);
      }

  pub rows-yes : RowsRight operand ws → rows_refusal operand ws ≡ no_refusal
  unfolding rows_refusal
  rows-yes R =
      all_yes rows_asked
      (number-none _ (items-yes (length ws) (row_questions operand ws) (λ i l. row-yes i (R.rows i l)))
      then question-of 10 _ (lt-ltb 0 _ R.some-output)
      then tt)

-- ---- 1 to 10: the file

module _ (k B : ℕ) (b : List ℕ) where
  pub block-right : block_questions k B b ≡ 0 → BlockWords k B b
  unfolding block_questions
  block-right h =
      let s = passed (sum_right b) _ _ h in
      let d = passed (head_right k B b) _ _ s.1 in
      let c = passed (count_right k B b) _ _ d.1 in
      let head = (head_right-iff k B b).0 d.0 in
      let count = (count_right-iff k B b).0 c.0 in
      record {
        sum = (sum_right-iff k B b).0 s.0;
        mark = head.mark;
        number-low = head.number-low;
        number-high = head.number-high;
        count-last = count.last;
        count-other = count.other;
        unused = (unused_right-iff k B b).0 (passed (unused_right b) _ _ c.1).0;
      }

  pub block-yes : BlockWords k B b → block_questions k B b ≡ 0
  unfolding block_questions
  block-yes w =
      passed-of _ _ _ ((sum_right-iff k B b).1 w.sum)
      (passed-of _ _ _ ((head_right-iff k B b).1 (record { mark = w.mark; number-low = w.number-low; number-high = w.number-high }))
      (passed-of _ _ _ ((count_right-iff k B b).1 (record { last = w.count-last; other = w.count-other })) (passed-of _ _ _ ((unused_right-iff k B b).1 w.unused) refl)))

-- Questions 1 to 10 are answered with yes.
pub record FileRight (operand : Operand) (f : List ℕ) : Type 0 where
  pub size : LengthWords f
  pub blocks : (B : ℕ) → B < block_count f → BlockWords (block_count f) B (block_at f B)
  pub rows : EachRowRight operand (fields_of f)
  pub some-output : 0 < count_if is_output (netlist_of f)

-- The last block has 1 to 63 rows.
pub last-count : (f : List ℕ) → LengthWords f → ((B : ℕ) → B < block_count f → BlockWords (block_count f) B (block_at f B)) → (1 ≤ byte_at f (512 * (block_count f - 1) + 2)) × (byte_at f (512 * (block_count f - 1) + 2) ≤ 63)
last-count f w blocks =
    let s = w.some-blocks in
    let c = (blocks (block_count f - 1) (omega arith)).count-last (omega arith) in
    let e = block-at f (block_count f - 1) 2 (omega arith) in
    (omega arith, omega arith)

module _ (operand : Operand) (f : List ℕ) where
  -- How many rows the file has, and they take its blocks.
  pub rows-of-file : FileRight operand f → (1 ≤ length (netlist_of f)) × (length (netlist_of f) ≤ most_rows) × (blocks_for (length (netlist_of f)) ≡ block_count f)
  rows-of-file F =
      let s = F.size in
      let c = last-count f F.size F.blocks in
      let n = read_length f in
      (omega arith, omega arith, omega arith)

  abbrev block_asked : ℕ → ℕ
  block_asked B = block_questions (block_count f) B (block_at f B)

  abbrev file_asked : List Refusal
  file_asked = question 1 (length_right f) ∷ item_questions (block_count f) block_asked ∷ rows_refusal operand (fields_of f) ∷ []

  -- The rows of a file whose questions are passed.
  pub file-rows : FileRight operand f → RowsRight operand (fields_of f)
  unfolding netlist_of
  file-rows F = record { rows = F.rows; some-output = F.some-output }

  pub file-yes : FileRight operand f → file_refusal_with operand f ≡ no_refusal
  unfolding file_refusal_with
  file-yes F =
      all_yes file_asked
      (question-of 1 _ ((length_right-iff f).1 F.size)
      then number-none _ (items-yes (block_count f) block_asked (λ B l. block-yes (block_count f) B (block_at f B) (F.blocks B l)))
      then number-none _ (rows-yes operand (fields_of f) (file-rows F))
      then tt)

  pub file-right : (file_refusal_with operand f).number ≡ 0 → FileRight operand f
  unfolding file_refusal_with netlist_of
  file-right h =
      let q = all_none file_asked h in
      let R = rows_right operand (fields_of f) q.1.1.0 in
      record { size = (length_right-iff f).0 (question-none 0 _ q.0); blocks = λ B l. block-right (block_count f) B (block_at f B) (items-none (block_count f) block_asked q.1.0 B l); rows = R.rows; some-output = R.some-output }

-- ---- 6 to 10 in plain words

next-below : (P : ℕ → Type 0) (rows : List Row) (r : Row) → OnLiterals P (NamesNode rows) r → NextBelow (length rows) r
next-below P rows constant w = tt
next-below P rows (input _ _) w = tt
next-below P rows (register _ n _) w = w.0
next-below P rows (and_gate _ _) w = tt
next-below P rows (xor_gate _ _) w = tt
next-below P rows (mux_gate _ _ _) w = tt
next-below P rows (output _ _ _) w = tt

-- f says it of an output's literal.
operands-below : (i : ℕ) (Q : ℕ → Type 0) (r : Row) → (is_output r ≡ true → (l : ℕ) → Q l → l / 2 < i) → OnLiterals (λ l. l / 2 < i) Q r → OperandsBelow i r
operands-below i Q constant f w = tt
operands-below i Q (input _ _) f w = tt
operands-below i Q (register _ _ _) f w = tt
operands-below i Q (and_gate _ _) f w = w
operands-below i Q (xor_gate _ _) f w = w
operands-below i Q (mux_gate _ _ _) f w = (w.0.0, w.0.1, w.1)
operands-below i Q (output a _ _) f w = f refl a w

module _ (operand : Operand) (ws : List RowFields) (R : RowsRight operand ws) where
  abbrev rows : List Row
  rows = map decode_row ws

  right-at : (i : ℕ) → i < length rows → RowRight operand ws i
  right-at i h = R.rows i (omega (arith, length-map ws decode_row))

  row_is : (i : ℕ) → row_at rows i ≡ decode_row (fields_at ws i)
  row_is i = get_or-map decode_row ws i (encode_row constant)

  kind-words : (i : ℕ) → i < length rows → KindWords rows i (fields_at ws i).kind
  kind-words i h = (kind_right-iff ws rows i).0 (right-at i h).kind

  fields-words : (i : ℕ) → i < length rows → FieldsWords (fields_at ws i).kind (fields_at ws i).reset (fields_at ws i).a (fields_at ws i).b (fields_at ws i).c
  fields-words i h = (fields_right-iff _ _ _ _ _ (kind-words i h).known).0 (right-at i h).fields

  -- The fields are those of the row that they are read as.
  pub rows-fields : (i : ℕ) → i < length rows → encode_row (row_at rows i) ≡ fields_at ws i
  rows-fields i h = ap encode_row (row_is i) ∙ (fields-words i h).unnamed-zero

  pub rows-resets : (i : ℕ) → i < length rows → ResetIn (row_at rows i)
  rows-resets i h = subst ResetIn (sym (row_is i)) (fields-words i h).reset-in

  pub rows-phases : (i : ℕ) → i < length rows → phase_of (row_at rows i) < most_phases
  rows-phases i h = subst (λ (r : Row). phase_of r < most_phases) (sym (row_is i)) (fields-words i h).phase-in

  pub rows-output : (x a l p : ℕ) × (x < length rows) × (row_at rows x ≡ output a l p)
  rows-output =
      let q = count-some is_output constant rows R.some-output in
      let o = output-is (row_at rows q.0) q.2 in
      (q.0, o.0, o.1, o.2, q.1, o.3)

  pub rows-constant : row_at rows 0 ≡ constant
  rows-constant =
      let h : 0 < length rows = omega (arith, rows-output.4) in
      row_is 0 ∙ ap (λ (k : ℕ). row_from_fields k (fields_at ws 0).reset (fields_at ws 0).a (fields_at ws 0).b (fields_at ws 0).c) ((kind-words 0 h).constant-first refl)

  pub rows-constant-only : (i : ℕ) → i < length rows → kind_of (row_at rows i) ≡ 0 → i ≡ 0
  rows-constant-only i h e = (kind-words i h).constant-only (ap (λ (w : RowFields). w.kind) (sym (rows-fields i h)) ∙ e)

  -- Every node stands before every output.
  pub rows-nodes-first : (i j : ℕ) → j < length rows → is_output (row_at rows i) ≡ true → is_output (row_at rows j) ≡ false → j < i
  rows-nodes-first i j h o n = elim (dec_lt j i) [
    | yes l ↦ l
    | no l ↦ absurd (elim (dec_lt i j) [
      | yes k ↦ false≢true (sym ((kind-words j h).nodes-first n i k) ∙ o)
      | no k ↦ (let e : i ≡ j = omega arith in false≢true (sym n ∙ ap (λ (x : ℕ). is_output (row_at rows x)) (sym e) ∙ o))
    ])
  ]

  literal-words : (i : ℕ) → i < length rows → (P : ℕ → Type 0) → ((l : ℕ) → (operand rows i l ≡ true) ↔ P l) → OnLiterals P (NamesNode rows) (row_at rows i)
  literal-words i h P each = (literals_right-iff operand rows i P each (row_at rows i)).0 (right-at i h).literals

  pub rows-nexts : (i : ℕ) → i < length rows → NextBelow (length rows) (row_at rows i)
  rows-nexts i h = next-below (λ l. operand rows i l ≡ true) rows (row_at rows i) (literal-words i h (λ l. operand rows i l ≡ true) (λ l. (λ e. e, λ e. e)))

  -- Where the operands of a gate name earlier rows, so does every literal but a register's next value.
  pub rows-ordered : ((i l : ℕ) → (operand rows i l ≡ true) ↔ (l / 2 < i)) → Ordered rows
  rows-ordered each i h =
      operands-below i (NamesNode rows) (row_at rows i) (λ o l n. rows-nodes-first i (l / 2) n.0 o n.1)
      (literal-words i h (λ l. l / 2 < i) (each i))

  pub rows-unique : NamesUnique rows
  rows-unique x y b b' t n = elim (dec_lt x y) [
    | yes h ↦ absurd (apart x y h b' (named-alike (row_at rows x) (row_at rows y) n.kind t) (same-sym (row_at rows x) (row_at rows y) n))
    | no h ↦ elim (dec_lt y x) [ yes h' ↦ absurd (apart y x h' b t n) | no h' ↦ omega arith ]
  ]
    where
      apart : (x y : ℕ) → x < y → y < length rows → has_name (row_at rows y) ≡ true → SameName (row_at rows y) (row_at rows x) → ⊥
      apart x y h b t n = (label_is_new-iff rows y).0 (right-at y b).label x h (t, n)

      same-sym : (r s : Row) → SameName r s → SameName s r
      same-sym r s n = record { kind = sym n.kind; label = sym n.label; phase = sym n.phase }

-- Whatever the operands of gates may name.
pub rows-checked-by : (operand : Operand) (Operands : List Row → Type 0) (ws : List RowFields) → RowsRight operand ws → Operands (map decode_row ws) → CheckedBy Operands (map decode_row ws)
rows-checked-by operand Operands ws R h = record {
  operands = h;
  nexts = rows-nexts operand ws R;
  resets = rows-resets operand ws R;
  phases = rows-phases operand ws R;
  constant-first = rows-constant operand ws R;
  constant-only = rows-constant-only operand ws R;
  nodes-first = rows-nodes-first operand ws R;
  has-output = rows-output operand ws R;
  unique = rows-unique operand ws R;
}

pub rows-checked : (ws : List RowFields) → RowsRight names_earlier ws → CheckedRows (map decode_row ws)
rows-checked ws R = rows-checked-by names_earlier Ordered ws R (rows-ordered names_earlier ws R (names_earlier-iff (map decode_row ws)))

pub file-checked : (f : List ℕ) → FileRight names_earlier f → CheckedRows (netlist_of f)
unfolding netlist_of
file-checked f F = rows-checked (fields_of f) (file-rows names_earlier f F)

-- Gates in any order.
pub rows-unordered : (ws : List RowFields) → RowsRight names_anywhere ws → UnorderedRows (map decode_row ws)
rows-unordered ws R = rows-checked-by names_anywhere Unordered ws R (λ i h. literal-words names_anywhere ws R i h (NamesNode (map decode_row ws)) (names_anywhere-iff (map decode_row ws) i))

pub file-unordered : (f : List ℕ) → FileRight names_anywhere f → UnorderedRows (netlist_of f)
unfolding netlist_of
file-unordered f F = rows-unordered (fields_of f) (file-rows names_anywhere f F)

-- A file that Check accepts passes 1 to 10 also where gates may stand in any order: before a gate stand nodes only.
literals-wider : (P P' Q : ℕ → Type 0) (r : Row) → ((l : ℕ) → P l → P' l) → OnLiterals P Q r → OnLiterals P' Q r
literals-wider P P' Q constant f w = tt
literals-wider P P' Q (input _ _) f w = tt
literals-wider P P' Q (register _ _ _) f w = w
literals-wider P P' Q (and_gate a b) f w = (f a w.0, f b w.1)
literals-wider P P' Q (xor_gate a b) f w = (f a w.0, f b w.1)
literals-wider P P' Q (mux_gate a b c) f w = ((f a w.0.0, f b w.0.1), f c w.1)
literals-wider P P' Q (output _ _ _) f w = w

row-unordered : (ws : List RowFields) → EachRowRight names_earlier ws → EachRowRight names_anywhere ws
row-unordered ws R i l =
    let rows = map decode_row ws in
    let r = R i l in
    let words = (literal_words-iff rows i _ ((kind_right-iff ws rows i).0 r.kind)).0 r.literals in
    record {
      kind = r.kind;
      fields = r.fields;
      label = r.label;
      literals = (unordered_words-iff rows i).1 (literals-wider (NamesEarlierNode rows i) (NamesNode rows) (NamesNode rows) (row_at rows i) (λ n w. (omega (arith, w.0, l, length-map ws decode_row), w.1)) words);
    }

pub checked-unordered : (f : List ℕ) → file_refusal f ≡ no_refusal → unordered_refusal f ≡ no_refusal
checked-unordered f e =
    let F = file-right names_earlier f (number-none (file_refusal f) e) in
    file-yes names_anywhere f (record { size = F.size; blocks = F.blocks; rows = row-unordered (fields_of f) F.rows; some-output = F.some-output })

-- ---- 17 to 20: Run

-- What Run was given, where it refuses nothing.
pub record RunRight (file : List ℕ) (T : ℕ) (choices inputs : List ℕ) (result work : ℕ) : Type 0 where
  pub file-right : FileRight names_earlier file
  pub steps : leb T most_steps ≡ true
  pub lists : value_lists_right (netlist_of file) T choices inputs ≡ true
  pub values : all_binary choices && all_binary inputs ≡ true
  pub memory : run_memory_right (netlist_of file) T result work ≡ true

module _ (file : List ℕ) (T : ℕ) (choices inputs : List ℕ) (result work : ℕ) where
  abbrev run_asked : List Refusal
  run_asked = file_refusal file ∷ question 17 (leb T most_steps) ∷ question 18 (value_lists_right (netlist_of file) T choices inputs) ∷ question 19 (all_binary choices && all_binary inputs) ∷ question 20 (run_memory_right (netlist_of file) T result work) ∷ []

  pub run-accepted : (run_refusal file T choices inputs result work).number ≡ 0 → RunRight file T choices inputs result work
  unfolding run_refusal
  run-accepted h =
      let q = all_none run_asked h in
      record {
        file-right = file-right names_earlier file q.0;
        steps = question-none 16 _ q.1.0;
        lists = question-none 17 _ q.1.1.0;
        values = question-none 18 _ q.1.1.1.0;
        memory = question-none 19 _ q.1.1.1.1.0;
      }

  pub run-yes : RunRight file T choices inputs result work → run_refusal file T choices inputs result work ≡ no_refusal
  unfolding run_refusal
  run-yes R =
      all_yes run_asked
      (number-none _ (file-yes names_earlier file R.file-right)
      then question-of 17 _ R.steps
      then question-of 18 _ R.lists
      then question-of 19 _ R.values
      then question-of 20 _ R.memory
      then tt)

-- ---- 21: Show

-- What Show was given, where it refuses nothing.
pub record ShowRight (file : List ℕ) (B : ℕ) : Type 0 where
  pub file-right : FileRight names_earlier file
  pub block : ltb B (block_count file) ≡ true

module _ (file : List ℕ) (B : ℕ) where
  abbrev show_asked : List Refusal
  show_asked = file_refusal file ∷ question 21 (ltb B (block_count file)) ∷ []

  pub show-accepted : (show_refusal file B).number ≡ 0 → ShowRight file B
  unfolding show_refusal
  show-accepted h = let q = all_none show_asked h in record { file-right = file-right names_earlier file q.0; block = question-none 20 _ q.1.0 }

  pub show-yes : ShowRight file B → show_refusal file B ≡ no_refusal
  unfolding show_refusal
  show-yes R = all_yes show_asked (number-none _ (file-yes names_earlier file R.file-right) then question-of 21 _ R.block then tt)
