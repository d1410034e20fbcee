-- `map_columns` meets its contract: labels, cleared work, columns.
-- Assumes nothing.
use borrow.Author.Rules.{rules}
use Rattle.trace_values.proofs.KeptLaws.{labels-room, columns-ready}
use Rattle.trace_values.proofs.map_columns.Goals as goal

pub list_labels-count-requires : goal.list_labels-count-requires
list_labels-count-requires c = search (labels-room, rules)

pub map_rows-requires-clause-has_rows : goal.map_rows-requires-clause-has_rows
map_rows-requires-clause-has_rows c = let L = c.list_labels-count.ensures in
    (search rules, columns-ready _ _ _ _ _ c.requires.folded_pair c.args.unknown _ _ (search rules) (search rules) _ L.1 L.0 _ c.phases_of-used.ensures)
