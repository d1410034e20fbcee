-- `import_names` meets its contract: names are asked before rows are counted, and the sorter takes the pairs that the names leave.
-- Assumes nothing.
use borrow.Author.Rules.{rules}
use Rattle.import.proofs.OutcomeLaws.{names-room, lines-unnamed, lines-many, lines-source, lines-imported}
use Rattle.import.proofs.import_names.Goals as goal

pub names_right-requires : goal.names_right-requires
names_right-requires c = (search rules, search (names-room, rules))

pub returns-then-not-names_right : goal.returns-then-not-names_right
returns-then-not-names_right c = record { text_imported = search lines-unnamed; slots_len_unchanged = search rules }

pub returns-then-not-fits : goal.returns-then-not-fits
returns-then-not-fits c = record { text_imported = search (lines-many, rules); slots_len_unchanged = search rules }

pub sort_pairs-requires : goal.sort_pairs-requires
sort_pairs-requires c = (search (lines-source, rules), (search rules, search rules))

pub returns : goal.returns
returns c = record { text_imported = search (lines-imported, rules); slots_len_unchanged = search rules }
