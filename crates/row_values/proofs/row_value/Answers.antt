-- `row_value` meets its contract, by kinds; the search finds all but the value of a MUX.
-- Assumes nothing.
use Rattle.row_values.proofs.RowValueLaws.{value-mux}
use Rattle.row_values.proofs.row_value.Goals as goal

pub returns-in-5 : goal.returns-in-5
returns-in-5 c = search value-mux
