-- `check_row` meets its contract: its answer is the first of questions 6 to 9 that the row answers with no.
-- Assumes nothing.
use Rattle.accept.proofs.RowCheckLaws.{no_kind, no_field, slot-fits, named-is, slot_is, no_label, no-literal, row-right}
use Rattle.accept.proofs.check_row.Goals as goal

pub returns-then-not-tests : goal.returns-then-not-tests
returns-then-not-tests c = search no_kind

pub returns-then-not-tests-2 : goal.returns-then-not-tests-2
returns-then-not-tests-2 c = search no_field

pub label_is_new-requires : goal.label_is_new-requires
label_is_new-requires c = search (named-is, slot_is, slot-fits)

pub returns-then-not-label_is_new : goal.returns-then-not-label_is_new
returns-then-not-label_is_new c = search no_label

pub returns-then-not-tests-3 : goal.returns-then-not-tests-3
returns-then-not-tests-3 c = search no-literal

pub returns : goal.returns
returns c = search row-right
