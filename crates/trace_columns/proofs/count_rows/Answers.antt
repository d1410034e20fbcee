use Rattle.trace_columns.proofs.NameLaws.{counted-more}
use Rattle.trace_columns.proofs.count_rows.Goals as goal

pub loop-row-preserved : goal.loop-row-preserved
loop-row-preserved c = counted-more _ _ c.requires _ c.loop-row-test.true _ _ c.loop-row.invariant.1 _ c.name_at-name.ensures.wanted
