-- `map_rows`: the columns of the rows before `row` are set.
-- Assumes nothing.
use Rattle.trace_columns.proofs.ColumnLaws.{Mapping}
use Rattle.trace_columns.proofs.map_rows.Given as goal

abbrev pub invariant-loop-row : goal.invariant-loop-row
invariant-loop-row l = Mapping l.folded l.unknown l.phases l.labels l.count l.initial.columns l.row l.spot.column l.spot.from l.columns
