-- The scope paper's "Questions, in order", each a test, and the refusal of each operation from its arguments alone: bytes, numbers and lengths.
-- A refusal is the number of the first question answered with no, and its place: the block for 2 to 5, the row for 6 to 9 and 13, else 0.
-- Interface: Refusal, no_refusal, unless_refused, file_refusal (1 to 10), run_refusal (1 to 10, 17 to 20), show_refusal (1 to 10, 21), Counts, counts_of.
-- Assumes nothing.
use Rattle.std.specs.Prelude.{ℕ, zero, suc, ◌+◌, ◌-◌, ◌*◌, ◌/◌, ◌%◌, ◌^◌, Bool, true, cond, not, ◌&&◌, ◌||◌, List, [], ◌∷◌, map, length, eqb, ltb, leb}
use Rattle.memory.specs.Lists.{all_below, first_from, count_if}
use Rattle.memory.specs.Fields.{byte_at}
use Rattle.netlist.specs.Limits.{most_file_bytes, most_phases, most_steps, row_work_bytes}
use Rattle.netlist.specs.Rows.{Row, constant, input, register, and_gate, xor_gate, mux_gate, output, RowFields, decode_row, row_at, kind_of, label_of, phase_of, has_name, is_named, is_input, is_register, is_unknown, is_output}
use Rattle.netlist.specs.FileFormat.{last_mark, low_byte, high_byte, word_sum, right_sum, block_count, block_at, fields_of, fields_at, netlist_of}

-- A refusal; number 0 is none, and its place is 0.
pub record Refusal : Type 0 where
  pub number : ℕ
  pub place : ℕ

abbrev pub no_refusal : Refusal
no_refusal = record { number = 0; place = 0 }

-- What an operation leaves: x unless there is a refusal, and then the other.
abbrev pub unless_refused : {A : Type 0} → Refusal → A → A → A
unless_refused q x other = cond (eqb q.number 0) x other

-- The first of these that is a refusal.
abbrev pub first_refusal : List Refusal → Refusal
first_refusal [] = no_refusal
first_refusal (q ∷ qs) = elim q.number [ zero ↦ first_refusal qs | suc n ↦ q ]

-- The question of this number, asked once, with place 0.
abbrev pub question : ℕ → Bool → Refusal
question number answer = cond answer no_refusal (record { number = number; place = 0 })

-- Questions asked of items 0 to n - 1 in turn: f is the number of an item's first no, or 0.
abbrev pub item_questions : ℕ → (ℕ → ℕ) → Refusal
item_questions n f = let i = first_from 0 n (λ i. ltb 0 (f i)) in cond (ltb i n) (record { number = f i; place = i }) no_refusal

-- ---- 1 to 5: the length, and block B of k, b its 512 bytes

abbrev pub length_right : List ℕ → Bool
length_right f = eqb (length f % 512) 0 && leb 512 (length f) && leb (length f) most_file_bytes

abbrev pub sum_right : List ℕ → Bool
sum_right b = eqb (word_sum b 128 % 2 ^ 32) right_sum

abbrev pub head_right : ℕ → ℕ → List ℕ → Bool
head_right k B b = eqb (byte_at b 0) (last_mark k B) && eqb (byte_at b 1) (low_byte B) && eqb (byte_at b 3) (high_byte B)

-- 63 rows, and in the last block 1 to 63.
abbrev pub count_right : ℕ → ℕ → List ℕ → Bool
count_right k B b = let n = byte_at b 2 in cond (eqb (suc B) k) (leb 1 n && leb n 63) (eqb n 63)

abbrev pub unused_right : List ℕ → Bool
unused_right b = let n = byte_at b 2 in all_below (504 - 8 * n) (λ i. eqb (byte_at b (4 + 8 * n + i)) 0)

unfoldable pub block_questions : ℕ → ℕ → List ℕ → ℕ
block_questions k B b = cond (not (sum_right b)) 2 (cond (not (head_right k B b)) 3 (cond (not (count_right k B b)) 4 (cond (not (unused_right b)) 5 0)))

-- ---- 6 to 10: row i, and the rows

-- 6: kind 0 to 6; kind 0 in row 0 and in no other; a node has no output before it.
abbrev pub kind_right : List RowFields → List Row → ℕ → Bool
kind_right ws rows i =
    let k = (fields_at ws i).kind in
    leb k 6 && cond (eqb k 0) (eqb i 0) (not (eqb i 0)) && (is_output (row_at rows i) || all_below i (λ j. not (is_output (row_at rows j))))

-- 7, by kind, reset and the fields a, b, c.
abbrev pub fields_right : ℕ → ℕ → ℕ → ℕ → ℕ → Bool
fields_right zero r a b c = eqb r 0 && eqb a 0 && eqb b 0 && eqb c 0
fields_right (suc zero) r a b c = eqb r 0 && ltb b most_phases && eqb c 0
fields_right (suc (suc zero)) r a b c = leb r 2 && eqb c 0
fields_right (suc (suc (suc zero))) r a b c = eqb r 0 && eqb c 0
fields_right (suc (suc (suc (suc zero)))) r a b c = eqb r 0 && eqb c 0
fields_right (suc (suc (suc (suc (suc zero))))) r a b c = eqb r 0
fields_right (suc (suc (suc (suc (suc (suc k)))))) r a b c = eqb r 0 && ltb c most_phases

-- 8: an input's or output's label and phase, or a register's label, is in no earlier row of its kind.
abbrev pub same_name : Row → Row → Bool
same_name r s = has_name r && is_named (kind_of r) (label_of r) (phase_of r) s

abbrev pub label_is_new : List Row → ℕ → Bool
label_is_new rows i = all_below i (λ j. not (same_name (row_at rows i) (row_at rows j)))

-- 9: the literal names a node, a row of the file that is no output, wherever that stands.
abbrev pub names_node : List Row → ℕ → Bool
names_node rows l = ltb (l / 2) (length rows) && not (is_output (row_at rows (l / 2)))

-- 9, for an operand of the gate in row i: a row of smaller number, which is a node, since 6 is asked of the gate first; the rows themselves are not looked at.
abbrev pub names_earlier : List Row → ℕ → ℕ → Bool
names_earlier rows i l = ltb (l / 2) i

-- 9, for an operand of a gate in a file whose gates may stand in any order: any node.
abbrev pub names_anywhere : List Row → ℕ → ℕ → Bool
names_anywhere rows i l = names_node rows l

-- 9, where `operand` says what a gate's operands may name.
abbrev pub literals_right : (List Row → ℕ → ℕ → Bool) → List Row → ℕ → Row → Bool
literals_right operand rows i constant = true
literals_right operand rows i (input l p) = true
literals_right operand rows i (register r n l) = names_node rows n
literals_right operand rows i (and_gate a b) = operand rows i a && operand rows i b
literals_right operand rows i (xor_gate a b) = operand rows i a && operand rows i b
literals_right operand rows i (mux_gate a b c) = operand rows i a && operand rows i b && operand rows i c
literals_right operand rows i (output a l p) = names_node rows a

unfoldable pub row_questions : (List Row → ℕ → ℕ → Bool) → List RowFields → ℕ → ℕ
row_questions operand ws i =
    let w = fields_at ws i in
    let rows = map decode_row ws in
    cond (not (kind_right ws rows i)) 6
    (cond (not (fields_right w.kind w.reset w.a w.b w.c)) 7
    (cond (not (label_is_new rows i)) 8
    (cond (not (literals_right operand rows i (row_at rows i))) 9 0)))

unfoldable pub rows_refusal : (List Row → ℕ → ℕ → Bool) → List RowFields → Refusal
rows_refusal operand ws = first_refusal (item_questions (length ws) (row_questions operand ws) ∷ question 10 (ltb 0 (count_if is_output (map decode_row ws))) ∷ [])

unfoldable pub file_refusal_with : (List Row → ℕ → ℕ → Bool) → List ℕ → Refusal
file_refusal_with operand f = first_refusal (question 1 (length_right f) ∷ item_questions (block_count f) (λ B. block_questions (block_count f) B (block_at f B)) ∷ rows_refusal operand (fields_of f) ∷ [])

-- Check, and what every operation but Sort asks first.
abbrev pub file_refusal : List ℕ → Refusal
file_refusal f = file_refusal_with names_earlier f

-- The same of a file whose gates may stand in any order: what Sort asks first.
abbrev pub unordered_refusal : List ℕ → Refusal
unordered_refusal f = file_refusal_with names_anywhere f

-- ---- Run: T steps, the two lists of values, and the lengths of result and work

abbrev pub value_lists_right : List Row → ℕ → List ℕ → List ℕ → Bool
value_lists_right rows T choices inputs = eqb (length choices) (count_if is_unknown rows) && eqb (length inputs) (T * count_if is_input rows)

abbrev pub all_binary : List ℕ → Bool
all_binary vs = all_below (length vs) (λ i. leb (byte_at vs i) 1)

abbrev pub run_memory_right : List Row → ℕ → ℕ → ℕ → Bool
run_memory_right rows T result work = leb (T * count_if is_output rows) result && leb (row_work_bytes (length rows)) work

-- 17 to 20: what Run asks of a netlist's rows.
abbrev pub step_questions : List Row → ℕ → List ℕ → List ℕ → ℕ → ℕ → List Refusal
step_questions rows T choices inputs result work =
    question 17 (leb T most_steps)
    ∷ question 18 (value_lists_right rows T choices inputs)
    ∷ question 19 (all_binary choices && all_binary inputs)
    ∷ question 20 (run_memory_right rows T result work)
    ∷ []

unfoldable pub run_refusal : List ℕ → ℕ → List ℕ → List ℕ → ℕ → ℕ → Refusal
run_refusal file T choices inputs result work = first_refusal (file_refusal file ∷ step_questions (netlist_of file) T choices inputs result work)

-- ---- Show of block B, and Count

unfoldable pub show_refusal : List ℕ → ℕ → Refusal
show_refusal file B = first_refusal (file_refusal file ∷ question 21 (ltb B (block_count file)) ∷ [])

-- What Count answers of an accepted file; the nodes include the constant.
pub record Counts : Type 0 where
  pub nodes : ℕ
  pub inputs : ℕ
  pub registers : ℕ
  pub unknown : ℕ
  pub outputs : ℕ

abbrev pub counts_of : List Row → Counts
counts_of rows = record {
  nodes = count_if (λ r. not (is_output r)) rows;
  inputs = count_if is_input rows;
  registers = count_if is_register rows;
  unknown = count_if is_unknown rows;
  outputs = count_if is_output rows;
}
