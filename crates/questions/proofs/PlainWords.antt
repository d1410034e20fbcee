-- What the tests of the questions mean: each is passed exactly if the scope paper's words hold.
-- Assumes nothing.
use Prim.Native.Nat.{ℕ, zero, suc, ◌+◌, ◌-◌, ◌*◌, ◌<◌, ◌≤◌, ◌/◌, ◌%◌, ◌^◌}
use mathlib.Core.Path.{◌≡◌, refl, sym, ap}
use mathlib.Core.Logic.Iff
use mathlib.Core.Logic.{◌↔◌}
use mathlib.Core.Bool.{Bool, true, false, ◌&&◌}
use mathlib.Core.List.{List}
use native.Mathlib.Omega.{arith}
use native.Mathlib.Decide.{ℕ_discrete}
use lib.ListN.{length}
use lib.Dec.{eqb, ltb, leb}
use borrow.Author.Tests.{ltb-true, leb-true, eqb-true, lt-ltb, le-leb}
use Rattle.memory.specs.Lists.{count_if}
use Rattle.memory.specs.Fields.{byte_at}
use Rattle.memory.proofs.TestLaws.{and-true, leb-iff, ltb_iff, eqb-iff, not_iff, none-iff, and-iff, or-iff, cond-iff}
use Rattle.memory.proofs.ListLaws.{all_below-iff, count-pos, count-some}
use Rattle.netlist.specs.Limits.{most_file_bytes, most_phases, row_work_bytes}
use Rattle.netlist.specs.Rows.{Row, constant, input, register, and_gate, xor_gate, mux_gate, output, RowFields, encode_row, row_from_fields, row_at, kind_of, label_of, phase_of, has_name, is_input, is_unknown, is_output}
use Rattle.netlist.specs.FileFormat.{low_byte, high_byte, word_sum, right_sum, fields_at}
use Rattle.netlist.proofs.RowLaws.{named-is, named-of}
use Rattle.netlist.specs.WellFormed.{SameName, ResetIn, NamesNode, OnLiterals}
use Rattle.questions.specs.Questions.{length_right, sum_right, head_right, count_right, unused_right, kind_right, fields_right, same_name, label_is_new, names_node, names_earlier, names_anywhere, literals_right, value_lists_right, all_binary, run_memory_right}
use Rattle.questions.specs.QuestionWords.{LengthWords, SumWords, MarkWords, HeadWords, rows_said, CountWords, UnusedWords, KindWords, FieldsWords, LabelWords, NamesEarlierNode, LiteralWords, UnorderedWords, OutputWords, ListsWords, BinaryWords, RoomWords}

-- ---- 1 to 5: the length, and block B

pub length_right-iff : (f : List ℕ) → (length_right f ≡ true) ↔ LengthWords f
length_right-iff f =
    Iff.trans (and-iff _ _ (and-iff _ _ (eqb-iff (length f % 512) 0) (leb-iff 512 (length f))) (leb-iff (length f) most_file_bytes)) (
      λ w. record { whole = omega (arith, w.0.0); some-blocks = omega (arith, w.0.1); few-blocks = omega (arith, w.1) },
      λ w. ((omega (arith, w.whole), omega (arith, w.whole, w.some-blocks)), omega (arith, w.whole, w.few-blocks)),
    )

module _ (k B : ℕ) (b : List ℕ) where
  -- What questions 2 to 5 ask, together.
  pub record BlockWords : Type 0 where
    pub sum : SumWords b
    pub mark : MarkWords k B b
    pub number-low : byte_at b 1 ≡ low_byte B
    pub number-high : byte_at b 3 ≡ high_byte B
    pub count-last : suc B ≡ k → (1 ≤ rows_said b) × (rows_said b ≤ 63)
    pub count-other : ¬ (suc B ≡ k) → rows_said b ≡ 63
    pub unused : UnusedWords b

  pub sum_right-iff : (sum_right b ≡ true) ↔ SumWords b
  sum_right-iff = eqb-iff (word_sum b 128 % 2 ^ 32) right_sum

  pub head_right-iff : (head_right k B b ≡ true) ↔ HeadWords k B b
  head_right-iff =
      Iff.trans (and-iff _ _ (and-iff _ _ (eqb-iff (byte_at b 0) _) (eqb-iff (byte_at b 1) (low_byte B))) (eqb-iff (byte_at b 3) (high_byte B)))
      (λ w. record { mark = w.0.0; number-low = w.0.1; number-high = w.1 }, λ w. ((w.mark, w.number-low), w.number-high))

  pub count_right-iff : (count_right k B b ≡ true) ↔ CountWords k B b
  count_right-iff =
      Iff.trans (cond-iff _ _ _ (eqb-iff (suc B) k) (and-iff _ _ (leb-iff 1 (rows_said b)) (leb-iff (rows_said b) 63)) (eqb-iff (rows_said b) 63))
      (λ w. record { last = w.0; other = w.1 }, λ w. (w.last, w.other))

  pub unused_right-iff : (unused_right b ≡ true) ↔ UnusedWords b
  unused_right-iff = all_below-iff (504 - 8 * rows_said b) _ (λ i. eqb-iff (byte_at b (4 + 8 * rows_said b + i)) 0)

-- ---- 6: the kind

pub kind_right-iff : (ws : List RowFields) (rows : List Row) (i : ℕ) → (kind_right ws rows i ≡ true) ↔ KindWords rows i (fields_at ws i).kind
kind_right-iff ws rows i =
    Iff.trans (and-iff _ _ (and-iff _ _ (leb-iff k 6) (cond-iff _ _ _ (eqb-iff k 0) (eqb-iff i 0) (none-iff (eqb i 0) (eqb-iff i 0)))) (or-iff (is_output (row_at rows i)) _ (all_below-iff i _ (λ j. not_iff (is_output (row_at rows j)))))) (
      λ w. record {
        known = w.0.0;
        constant-only = w.0.1.0;
        constant-first = λ e. elim (ℕ_discrete k 0) [ yes z ↦ z | no n ↦ absurd (w.0.1.1 n e) ];
        nodes-first = w.1;
      },
      λ w. ((w.known, (w.constant-only, λ n e. n (w.constant-first e))), w.nodes-first),
    )
  where
    k : ℕ
    k = (fields_at ws i).kind

-- ---- 7: the fields

fields-words : (k r a b c : ℕ) → k ≤ 6 → fields_right k r a b c ≡ true → FieldsWords k r a b c
fields-words zero r a b c h e =
    let p = and-true (eqb r 0 && eqb a 0 && eqb b 0) _ e in
    let q = and-true (eqb r 0 && eqb a 0) _ p.0 in
    let s = and-true (eqb r 0) _ q.0 in
    record { unnamed-zero = rw (eqb-true r 0 s.0, eqb-true a 0 s.1, eqb-true b 0 q.1, eqb-true c 0 p.1); reset-in = tt; phase-in = omega arith }
fields-words (suc zero) r a b c h e =
    let p = and-true (eqb r 0 && ltb b most_phases) _ e in
    let q = and-true (eqb r 0) _ p.0 in
    record { unnamed-zero = rw (eqb-true r 0 q.0, eqb-true c 0 p.1); reset-in = tt; phase-in = ltb-true b most_phases q.1 }
fields-words (suc (suc zero)) r a b c h e =
    let p = and-true (leb r 2) _ e in
    record { unnamed-zero = rw (eqb-true c 0 p.1); reset-in = leb-true r 2 p.0; phase-in = omega arith }
fields-words (suc (suc (suc zero))) r a b c h e =
    let p = and-true (eqb r 0) _ e in
    record { unnamed-zero = rw (eqb-true r 0 p.0, eqb-true c 0 p.1); reset-in = tt; phase-in = omega arith }
fields-words (suc (suc (suc (suc zero)))) r a b c h e =
    let p = and-true (eqb r 0) _ e in
    record { unnamed-zero = rw (eqb-true r 0 p.0, eqb-true c 0 p.1); reset-in = tt; phase-in = omega arith }
fields-words (suc (suc (suc (suc (suc zero))))) r a b c h e = record { unnamed-zero = rw (eqb-true r 0 e); reset-in = tt; phase-in = omega arith }
fields-words (suc (suc (suc (suc (suc (suc zero)))))) r a b c h e =
    let p = and-true (eqb r 0) _ e in
    record { unnamed-zero = rw (eqb-true r 0 p.0); reset-in = tt; phase-in = ltb-true c most_phases p.1 }
fields-words (suc (suc (suc (suc (suc (suc (suc k))))))) r a b c h e = absurd (omega arith)

fields-test : (k r a b c : ℕ) → k ≤ 6 → FieldsWords k r a b c → fields_right k r a b c ≡ true
fields-test k r a b c h w = go k h w.reset-in w.phase-in (ap (λ (x : RowFields). x.reset) z) (ap (λ (x : RowFields). x.a) z) (ap (λ (x : RowFields). x.b) z) (ap (λ (x : RowFields). x.c) z)
  where
    z : encode_row (row_from_fields k r a b c) ≡ record { kind = k; reset = r; a = a; b = b; c = c }
    z = w.unnamed-zero

    go : (k : ℕ) → k ≤ 6 → ResetIn (row_from_fields k r a b c) → phase_of (row_from_fields k r a b c) < most_phases
        → (encode_row (row_from_fields k r a b c)).reset ≡ r → (encode_row (row_from_fields k r a b c)).a ≡ a → (encode_row (row_from_fields k r a b c)).b ≡ b → (encode_row (row_from_fields k r a b c)).c ≡ c → fields_right k r a b c ≡ true
    go zero h s p er ea eb ec = rw (← er, ← ea, ← eb, ← ec)
    go (suc zero) h s p er ea eb ec = rw (← er, ← ec, lt-ltb b most_phases p)
    go (suc (suc zero)) h s p er ea eb ec = rw (← ec, le-leb r 2 s)
    go (suc (suc (suc zero))) h s p er ea eb ec = rw (← er, ← ec)
    go (suc (suc (suc (suc zero)))) h s p er ea eb ec = rw (← er, ← ec)
    go (suc (suc (suc (suc (suc zero))))) h s p er ea eb ec = rw (← er)
    go (suc (suc (suc (suc (suc (suc zero)))))) h s p er ea eb ec = rw (← er, lt-ltb c most_phases p)
    go (suc (suc (suc (suc (suc (suc (suc k))))))) h s p er ea eb ec = absurd (omega arith)

pub fields_right-iff : (k r a b c : ℕ) → k ≤ 6 → (fields_right k r a b c ≡ true) ↔ FieldsWords k r a b c
fields_right-iff k r a b c h = (fields-words k r a b c h, fields-test k r a b c h)

-- ---- 8: the label

pub same_name-iff : (r s : Row) → (same_name r s ≡ true) ↔ ((has_name r ≡ true) × SameName r s)
same_name-iff r s = and-iff _ _ (λ e. e, λ e. e) (
  λ e. (let n = named-is (kind_of r) (label_of r) (phase_of r) s e in record { kind = sym n.0; label = sym n.1; phase = sym n.2 }),
  λ n. named-of (kind_of r) (label_of r) (phase_of r) s (sym n.kind) (sym n.label) (sym n.phase),
)

pub label_is_new-iff : (rows : List Row) (i : ℕ) → (label_is_new rows i ≡ true) ↔ LabelWords rows i
label_is_new-iff rows i = all_below-iff i _ (λ j. none-iff (same_name (row_at rows i) (row_at rows j)) (same_name-iff (row_at rows i) (row_at rows j)))

-- ---- 9: the literals

pub names_node-iff : (rows : List Row) (l : ℕ) → (names_node rows l ≡ true) ↔ NamesNode rows l
names_node-iff rows l = and-iff _ _ (ltb_iff (l / 2) (length rows)) (not_iff (is_output (row_at rows (l / 2))))

pub names_earlier-iff : (rows : List Row) (i l : ℕ) → (names_earlier rows i l ≡ true) ↔ (l / 2 < i)
names_earlier-iff rows i l = ltb_iff (l / 2) i

-- P is what the test of an operand means, in a row that is no output.
module _ (operand : List Row → ℕ → ℕ → Bool) (rows : List Row) (i : ℕ) (P : ℕ → Type 0) where
  pub literals-iff : (r : Row) → (is_output r ≡ false → (l : ℕ) → (operand rows i l ≡ true) ↔ P l) → (literals_right operand rows i r ≡ true) ↔ OnLiterals P (NamesNode rows) r
  literals-iff constant each = (λ _. tt, λ _. refl)
  literals-iff (input l p) each = (λ _. tt, λ _. refl)
  literals-iff (register r n l) each = names_node-iff rows n
  literals-iff (and_gate a b) each = and-iff _ _ (each refl a) (each refl b)
  literals-iff (xor_gate a b) each = and-iff _ _ (each refl a) (each refl b)
  literals-iff (mux_gate a b c) each = and-iff _ _ (and-iff _ _ (each refl a) (each refl b)) (each refl c)
  literals-iff (output a l p) each = names_node-iff rows a

  pub literals_right-iff : ((l : ℕ) → (operand rows i l ≡ true) ↔ P l) → (r : Row) → (literals_right operand rows i r ≡ true) ↔ OnLiterals P (NamesNode rows) r
  literals_right-iff each r = literals-iff r (λ _. each)

-- Question 6 has made every row before a gate a node.
pub literal_words-iff : (rows : List Row) (i k : ℕ) → KindWords rows i k → (literals_right names_earlier rows i (row_at rows i) ≡ true) ↔ LiteralWords rows i
literal_words-iff rows i k w = literals-iff names_earlier rows i (NamesEarlierNode rows i) (row_at rows i) (λ node l. Iff.trans (names_earlier-iff rows i l) (λ h. (h, w.nodes-first node (l / 2) h), λ n. n.0))

pub names_anywhere-iff : (rows : List Row) (i l : ℕ) → (names_anywhere rows i l ≡ true) ↔ NamesNode rows l
names_anywhere-iff rows i l = names_node-iff rows l

pub unordered_words-iff : (rows : List Row) (i : ℕ) → (literals_right names_anywhere rows i (row_at rows i) ≡ true) ↔ UnorderedWords rows i
unordered_words-iff rows i = literals_right-iff names_anywhere rows i (NamesNode rows) (names_anywhere-iff rows i) (row_at rows i)

-- ---- 10: an output

pub some_output-iff : (rows : List Row) → (ltb 0 (count_if is_output rows) ≡ true) ↔ OutputWords rows
some_output-iff rows = Iff.trans (ltb_iff 0 (count_if is_output rows)) (count-some is_output constant rows, λ w. count-pos is_output constant rows w.0 w.1 w.2)

-- ---- 18 to 20: Run

pub value_lists_right-iff : (rows : List Row) (T : ℕ) (choices inputs : List ℕ) → (value_lists_right rows T choices inputs ≡ true) ↔ ListsWords rows T choices inputs
value_lists_right-iff rows T choices inputs = and-iff _ _ (eqb-iff (length choices) (count_if is_unknown rows)) (eqb-iff (length inputs) (T * count_if is_input rows))

pub all_binary-iff : (vs : List ℕ) → (all_binary vs ≡ true) ↔ BinaryWords vs
all_binary-iff vs = all_below-iff (length vs) _ (λ i. leb-iff (byte_at vs i) 1)

pub run_memory_right-iff : (rows : List Row) (T result work : ℕ) → (run_memory_right rows T result work ≡ true) ↔ RoomWords rows T result work
run_memory_right-iff rows T result work = and-iff _ _ (leb-iff (T * count_if is_output rows) result) (leb-iff (row_work_bytes (length rows)) work)
