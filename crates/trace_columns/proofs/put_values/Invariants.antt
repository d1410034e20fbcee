-- `put_values`: the values of the first `index` slots are written, and no other byte is changed.
-- Assumes nothing.
use Rattle.trace_columns.proofs.ValueLaws.{PutUpto}
use Rattle.trace_columns.proofs.put_values.Given as goal

abbrev pub invariant-loop-index : goal.invariant-loop-index
invariant-loop-index l = PutUpto l.columns l.first l.values l.base l.initial.trace l.to l.index l.trace
