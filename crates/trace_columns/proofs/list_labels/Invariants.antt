-- `list_labels`: the labels of the rows before `row` are listed.
-- Assumes nothing.
use Rattle.trace_columns.proofs.NameLaws.{Listing}
use Rattle.trace_columns.proofs.list_labels.Given as goal

abbrev pub invariant-loop-row : goal.invariant-loop-row
invariant-loop-row l = Listing l.file l.unknown l.initial.labels l.row l.count l.labels
