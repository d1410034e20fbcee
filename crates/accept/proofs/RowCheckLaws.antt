-- Questions 6 to 9 of a row, from what its tests found; and the rows asked in turn. What a gate's operands may name is any rule.
-- Assumes nothing.
use Prim.Native.Nat.{ℕ, suc, ◌+◌, ◌<◌, ◌≤◌, ◌/◌, ◌^◌}
use mathlib.Core.Path.{◌≡◌, refl, sym, ap, ◌∙◌, subst}
use mathlib.Core.Bool.{Bool, true, false, cond, not}
use mathlib.Core.List.{List, [], ◌∷◌}
use native.Mathlib.Omega.{arith}
use lib.ListN.{length, take, length-map}
use lib.Seq.{take-length}
use lib.Dec.{ltb}
use borrow.Author.Tests.{not-true, not-false, lt-ltb, le-ltb}
use Rattle.memory.specs.Lists.{count_if}
use Rattle.memory.proofs.ListLaws.{count-le}
use Rattle.netlist.specs.Rows.{Row, RowFields, decode_row, row_at, has_name, is_output}
use Rattle.netlist.specs.FileFormat.{read_fields, row_count, fields_of, fields_at, netlist_of}
use Rattle.netlist.proofs.FileLaws.{read_length, read_at}
use Rattle.questions.specs.Questions.{Refusal, Counts, first_refusal, question, item_questions, kind_right, fields_right, label_is_new, literals_right, row_questions, rows_refusal}
use Rattle.questions.proofs.QuestionLaws.{list-next, number-none, items-yes, list-stop}
use Rattle.questions.proofs.AcceptedFiles.{Operand}
use Rattle.blockfile.specs.declared.count.Counts as code
use Rattle.blockfile.specs.CountCode.{counts_in}
use Rattle.blockfile.specs.Ready.{HasRows}
use Rattle.row_questions.specs.declared.RowTests.{RowTests}
use Rattle.row_questions.specs.Slots.{all_slots, slot_of}
use Rattle.row_questions.specs.Tally.{output_tally, row_tally, tally_of, counts_from}
use Rattle.row_questions.specs.RowTested.{TestsOf}
use Rattle.row_questions.proofs.NameLaws.{sorts-of}
use Rattle.row_questions.proofs.TallyLaws.{tally-next, tally-room, outputs-are, counts-right}
use Rattle.name_marks.specs.Marks.{mark_bytes, NamesMarked}
use Rattle.name_marks.proofs.MarkLaws.{marks-none}
use Rattle.accept.specs.declared.FileRefusal.{FileRefusal}
use Rattle.accept.specs.declared.FileRefusal.TheVariants.{Kind, Field, Label, Literal, NoOutput}
use Rattle.std.specs.Prelude.{Result, Ok, Err}
use Rattle.accept.specs.declared.Accepted.{Accepted}
use Rattle.accept.specs.Refusals.{refusal_in, Answered}
use Rattle.accept.specs.Parts.{refusal_at, RowAnswered}
use Rattle.accept.proofs.RefusalLaws.{number-positive, items-stop, items-again, answered-no, answered-yes}

-- ---- a row whose tests were made

abbrev fields_test : RowFields → Bool
fields_test v = fields_right v.kind v.reset v.a v.b v.c

-- The first no of the four questions.
abbrev row_answer : Bool → Bool → Bool → Bool → ℕ
row_answer k g l m = cond (not k) 6 (cond (not g) 7 (cond (not l) 8 (cond (not m) 9 0)))

asked-model : (operand : Operand) (f : List ℕ) (i : ℕ)
    → row_questions operand (fields_of f) i
    ≡ row_answer (kind_right (fields_of f) (netlist_of f) i) (fields_test (fields_at (fields_of f) i)) (label_is_new (netlist_of f) i) (literals_right operand (netlist_of f) i (row_at (netlist_of f) i))
unfolding row_questions netlist_of
asked-model operand f i = refl

-- A refusal of the row says its number.
refused : (operand : Operand) (f : List ℕ) (i m : ℕ) (few : Bool) (after : List ℕ) (x : FileRefusal) → refusal_in x ≡ record { number = suc m; place = i } → row_questions operand (fields_of f) i ≡ suc m → RowAnswered operand f i few (Err x) after
refused operand f i m few after x q e = record { refusal = q ∙ sym (ap (λ (k : ℕ). refusal_at k i) e); names = λ z. absurd (omega (arith, e, z)) }

module _ {operand : Operand} {f : List ℕ} (R : HasRows f (length (netlist_of f))) {i : ℕ} (within : i < length (netlist_of f)) {t : RowTests} (T : TestsOf operand (netlist_of f) i (read_fields f i) t) where
  here : row_at (netlist_of f) i ≡ decode_row (read_fields f i)
  here = R.row_is i within

  fields-here : fields_at (fields_of f) i ≡ read_fields f i
  fields-here = read_at f i (omega (arith, read_length f, within))

  kind-is : t.kind ≡ kind_right (fields_of f) (netlist_of f) i
  kind-is = rw (fields-here, here, (sorts-of (read_fields f i)).output-if) T.kind

  -- The row's questions, from its fields.
  asked : row_questions operand (fields_of f) i ≡ row_answer t.kind (fields_test (read_fields f i)) (label_is_new (netlist_of f) i) (literals_right operand (netlist_of f) i (decode_row (read_fields f i)))
  asked =
      let k = kind_right (fields_of f) (netlist_of f) i in
      let g = fields_test (read_fields f i) in
      let l = label_is_new (netlist_of f) i in
      asked-model operand f i
      ∙ ap (λ (v : RowFields). row_answer k (fields_test v) l (literals_right operand (netlist_of f) i (row_at (netlist_of f) i))) fields-here
      ∙ ap (λ (r : Row). row_answer k g l (literals_right operand (netlist_of f) i r)) here
      ∙ ap (λ (b : Bool). row_answer b g l (literals_right operand (netlist_of f) i (decode_row (read_fields f i)))) (sym kind-is)

  pub no_kind : {few : Bool} {after : List ℕ} → not t.kind ≡ true → RowAnswered operand f i few (Err (Kind i)) after
  no_kind h = refused operand f i 5 _ _ (Kind i) refl (asked ∙ rw (not-true t.kind h))

  module _ (kind : not t.kind ≡ false) where
    kind-yes : t.kind ≡ true
    kind-yes = not-false t.kind kind

    fields-is : t.fields ≡ fields_test (read_fields f i)
    fields-is = T.fields kind-yes

    pub no_field : {few : Bool} {after : List ℕ} → not t.fields ≡ true → RowAnswered operand f i few (Err (Field i)) after
    no_field h = refused operand f i 6 _ _ (Field i) refl (asked ∙ rw (kind-yes, ← fields-is, not-true t.fields h))

    -- The name and the slot are those of the row.
    pub named-is : t.named ≡ has_name (row_at (netlist_of f) i)
    named-is = T.named kind-yes ∙ ap has_name (sym here)

    pub slot_is : t.slot ≡ slot_of (row_at (netlist_of f) i)
    slot_is = T.slot kind-yes ∙ ap slot_of (sym here)

    module _ (fields : not t.fields ≡ false) where
      fields-yes : fields_test (read_fields f i) ≡ true
      fields-yes = sym fields-is ∙ not-false t.fields fields

      pub slot-fits : t.slot < all_slots
      slot-fits = T.slot-fits kind-yes (not-false t.fields fields)

      module _ {new : Bool} (Label-is : new ≡ label_is_new (netlist_of f) i) where
        pub no_label : {few : Bool} {after : List ℕ} → not new ≡ true → RowAnswered operand f i few (Err (Label i)) after
        no_label h = refused operand f i 7 _ _ (Label i) refl (asked ∙ rw (kind-yes, fields-yes, ← Label-is, not-true new h))

        module _ (label : not new ≡ false) where
          pub no-literal : {few : Bool} {after : List ℕ} → not t.literals ≡ true → RowAnswered operand f i few (Err (Literal i)) after
          no-literal h = refused operand f i 8 _ _ (Literal i) refl (asked ∙ rw (kind-yes, fields-yes, ← Label-is, not-false new label, ← T.literals kind-yes, not-true t.literals h))

          pub row-right : {few : Bool} {after : List ℕ} → not t.literals ≡ false → NamesMarked few (netlist_of f) (i + 1) after → RowAnswered operand f i few (Ok tt) after
          row-right h M =
              let e : row_questions operand (fields_of f) i ≡ 0 = asked ∙ rw (kind-yes, fields-yes, ← Label-is, not-false new label, ← T.literals kind-yes, not-false t.literals h) in
              record { refusal = sym (ap (λ (q : ℕ). refusal_at q i) e); names = λ _. M }

-- ---- rows asked in turn

-- The first n rows are right, and what is known of them.
pub record PassedRows (operand : Operand) (f : List ℕ) (tally : ℕ) (few : Bool) (marks : List ℕ) (n : ℕ) : Type 0 where
  pub right : (j : ℕ) → j < n → row_questions operand (fields_of f) j ≡ 0
  pub sorts : tally ≡ tally_of (take n (netlist_of f))
  pub names : NamesMarked few (netlist_of f) n marks

pub passed_none : (operand : Operand) (f : List ℕ) (few : Bool) (marks : List ℕ) → length marks ≡ mark_bytes few → PassedRows operand f 0 few marks 0
passed_none operand f few marks size = record { right = λ j l. absurd (omega arith); sorts = refl; names = marks-none few (netlist_of f) marks size }

-- Questions 6 to 9 of all rows, and question 10.
abbrev items : Operand → List ℕ → Refusal
items operand f = item_questions (row_count f) (row_questions operand (fields_of f))

abbrev tenth : List ℕ → List Refusal
tenth f = question 10 (ltb 0 (count_if is_output (netlist_of f))) ∷ []

fields-length : (f : List ℕ) → length (fields_of f) ≡ row_count f
unfolding netlist_of
fields-length f = sym (length-map (fields_of f) decode_row) ∙ read_length f

rows-asked : (operand : Operand) (f : List ℕ) → rows_refusal operand (fields_of f) ≡ first_refusal (items operand f ∷ tenth f)
unfolding rows_refusal netlist_of
rows-asked operand f = ap (λ (n : ℕ). first_refusal (item_questions n (row_questions operand (fields_of f)) ∷ tenth f)) (fields-length f)

abbrev RowsAnswered : Operand → List ℕ → Result Accepted FileRefusal → Type 0
RowsAnswered operand f a = Answered (rows_refusal operand (fields_of f)) (netlist_of f) a

-- What the row check is asked for.
pub all-rows : {f : List ℕ} {n : ℕ} → HasRows f n → HasRows f (length (netlist_of f))
all-rows R = subst (HasRows _) R.count R

pub tests-read : {operand : Operand} {rows : List Row} {i : ℕ} {v w : RowFields} {t : RowTests} → v ≡ w → TestsOf operand rows i v t → TestsOf operand rows i w t
tests-read {operand = operand} {rows = rows} {i = i} {t = t} e T = subst (λ (u : RowFields). TestsOf operand rows i u t) e T

module _ {operand : Operand} {f : List ℕ} {rows : ℕ} (R : HasRows f rows) {n tally : ℕ} {few : Bool} {marks : List ℕ} (P : PassedRows operand f tally few marks n) where
  module _ (more : n < rows) where
    pub row_below : n < length (netlist_of f)
    row_below = omega (arith, R.count)

    within : n < row_count f
    within = omega (arith, row_below, read_length f)

    module _ {v : RowFields} (read : v ≡ read_fields f n) {t : RowTests} (T : TestsOf operand (netlist_of f) n v t) where
      pub sum_fits : tally + t.tally < 2 ^ 64
      sum_fits = omega (arith, P.sorts, T.tally, tally-room (netlist_of f) n (decode_row v) (omega (arith, R.few)))

      sum_is : tally + t.tally ≡ tally_of (take (n + 1) (netlist_of f))
      sum_is = omega (arith, P.sorts, T.tally ∙ ap (λ (w : RowFields). row_tally (decode_row w)) read, ap row_tally (R.row_is n more), tally-next (netlist_of f) n row_below)

      module _ {a : Result Unit FileRefusal} {after : List ℕ} (A : RowAnswered operand f n few a after) where
        pub rows-again : (u : Unit) → a ≡ Ok u → PassedRows operand f (tally + t.tally) few after (n + 1)
        rows-again u e =
            let right = items-again (row_count f) (row_questions operand (fields_of f)) n within P.right a A.refusal u e in
            record { right = right; sorts = sum_is; names = A.names (right n (omega arith)) }

    pub rows-stop : {a : Result Unit FileRefusal} {after : List ℕ} → RowAnswered operand f n few a after → (x : FileRefusal) → a ≡ Err x → RowsAnswered operand f (Err x)
    rows-stop {a = a} A x e =
        let q = items-stop (row_count f) (row_questions operand (fields_of f)) n within P.right a A.refusal x e in
        let p : 0 < (items operand f).number = omega (arith, number-positive x, ap (λ (y : Refusal). y.number) q) in
        answered-no (rows_refusal operand (fields_of f)) (netlist_of f) x (q ∙ sym (rows-asked operand f ∙ list-stop (items operand f) (tenth f) p))

  module _ (most : n ≤ rows) (all : rows ≤ n) where
    sorts-all : tally ≡ tally_of (netlist_of f)
    sorts-all =
        let e : n ≡ length (netlist_of f) = omega (arith, R.count) in
        P.sorts ∙ ap tally_of (ap (λ (k : ℕ). take k (netlist_of f)) e ∙ take-length (netlist_of f))

    outputs : tally / output_tally ≡ count_if is_output (netlist_of f)
    outputs = outputs-are (netlist_of f) rows tally R.few R.count sorts-all

    pub outputs-few : tally / output_tally ≤ rows
    outputs-few = omega (arith, outputs, count-le is_output (netlist_of f), R.count)

    only-tenth : rows_refusal operand (fields_of f) ≡ first_refusal (tenth f)
    only-tenth = rows-asked operand f ∙ list-next (items operand f) (tenth f) (number-none (items operand f) (items-yes (row_count f) (row_questions operand (fields_of f)) (λ j h. P.right j (omega (arith, read_length f, R.count)))))

    module _ {c : code.Counts} (counts : counts_in c ≡ counts_from rows tally) where
      outputs-told : c.outputs ≡ count_if is_output (netlist_of f)
      outputs-told = ap (λ (k : Counts). k.outputs) counts ∙ outputs

      pub rows-no-output : c.outputs ≡ 0 → RowsAnswered operand f (Err NoOutput)
      rows-no-output e = answered-no (rows_refusal operand (fields_of f)) (netlist_of f) NoOutput (rw (only-tenth, le-ltb 0 (count_if is_output (netlist_of f)) (omega (arith, e, outputs-told))))

      pub rows_right : (c.outputs ≡ 0 → ⊥) → RowsAnswered operand f (Ok (record { rows = rows; counts = c }))
      rows_right e = answered-yes (rows_refusal operand (fields_of f)) (netlist_of f) (record { rows = rows; counts = c }) (rw (only-tenth, lt-ltb 0 (count_if is_output (netlist_of f)) (omega (arith, e, outputs-told)))) R.count (counts ∙ counts-right (netlist_of f) rows tally R.few R.count sorts-all)
