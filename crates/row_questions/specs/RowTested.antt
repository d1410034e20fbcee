-- What the tests of one row say.
-- Interface: only_nodes, operand_by, TestsOf.
-- Assumes nothing.
use Rattle.std.specs.Prelude.{ℕ, ◌<◌, ◌≡◌, Bool, true, false, cond, not, ◌&&◌, ◌||◌, List, eqb, leb}
use Rattle.memory.specs.Lists.{all_below}
use Rattle.netlist.specs.Rows.{Row, RowFields, decode_row, row_at, has_name, is_output}
use Rattle.questions.specs.Questions.{fields_right, names_earlier, names_anywhere, literals_right}
use Rattle.row_questions.specs.declared.RowTests.{RowTests}
use Rattle.row_questions.specs.Slots.{all_slots, slot_of}
use Rattle.row_questions.specs.Tally.{row_tally}

-- None of the first n rows is an output.
abbrev pub only_nodes : List Row → ℕ → Bool
only_nodes rows n = all_below n (λ j. not (is_output (row_at rows j)))

-- What a gate's operands may name: any node where gates may stand in any order, else an earlier row.
abbrev pub operand_by : Bool → List Row → ℕ → ℕ → Bool
operand_by true = names_anywhere
operand_by false = names_earlier

-- The tests of row i, whose fields are w; `operand` says what a gate's operands may name. After question 6 only a row of kind 0 to 6 is asked.
pub record TestsOf (operand : List Row → ℕ → ℕ → Bool) (rows : List Row) (i : ℕ) (w : RowFields) (t : RowTests) : Type 0 where
  pub kind : t.kind ≡ leb w.kind 6 && cond (eqb w.kind 0) (eqb i 0) (not (eqb i 0)) && (eqb w.kind 6 || only_nodes rows i)
  pub fields : t.kind ≡ true → t.fields ≡ fields_right w.kind w.reset w.a w.b w.c
  pub named : t.kind ≡ true → t.named ≡ has_name (decode_row w)
  pub slot : t.kind ≡ true → t.slot ≡ slot_of (decode_row w)
  pub slot-fits : t.kind ≡ true → t.fields ≡ true → t.slot < all_slots
  pub literals : t.kind ≡ true → t.literals ≡ literals_right operand rows i (decode_row w)
  pub tally : t.tally ≡ row_tally (decode_row w)
