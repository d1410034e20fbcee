-- `import_text` meets its contract: other text is refused with 24, by its header or by its lines.
-- Assumes nothing.
use borrow.Author.Rules.{rules}
use Rattle.import.proofs.OutcomeLaws.{header_is, header-inside, header-few, header-counted, header_refused, lines-refused}
use Rattle.import.proofs.import_text.Goals as goal

pub lines_right-requires : goal.lines_right-requires
lines_right-requires c = record { text_value = (search header_is, search header-inside); few_header = search header-few }

pub import_lines-requires : goal.import_lines-requires
import_lines-requires c = (search header-counted, search rules)

pub returns-in_default : goal.returns-in_default
returns-in_default c = record { text_imported = search (header_refused, rules); work_len_unchanged = search rules }

pub returns-else-lines_right : goal.returns-else-lines_right
returns-else-lines_right c = record { text_imported = search (lines-refused, rules); work_len_unchanged = search rules }
