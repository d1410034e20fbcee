-- `import` meets its contract: 23 is asked first, and work is cleared on every way out.
-- Assumes nothing.
use borrow.Author.Rules.{rules}
use Rattle.import.proofs.OutcomeLaws.{text-imported, memory-refused}
use Rattle.import.proofs.import.Goals as goal

pub returns-then-work-ge-IMPORT_WORK_BYTES : goal.returns-then-work-ge-IMPORT_WORK_BYTES
returns-then-work-ge-IMPORT_WORK_BYTES c = search (text-imported, rules)

pub returns-else-res-ge-IMPORT_RESULT_BYTES : goal.returns-else-res-ge-IMPORT_RESULT_BYTES
returns-else-res-ge-IMPORT_RESULT_BYTES c = search memory-refused
