-- `read_field` meets its contract: a number, and a space or a line feed after it.
-- Assumes nothing.
use borrow.Author.Rules.{rules}
use Rattle.aiger_lines.proofs.ReadingLaws.{field-none, field_end, field-last, field_next, field-other}
use Rattle.aiger_lines.proofs.read_field.Goals as goal

pub returns-then-text-end : goal.returns-then-text-end
returns-then-text-end c = search (field_end, rules)

pub returns-in_default : goal.returns-in_default
returns-in_default c = search (field-none, rules)

pub returns-then-byte-eq10 : goal.returns-then-byte-eq10
returns-then-byte-eq10 c = search (field-last, rules)

pub returns-then-byte-eq32 : goal.returns-then-byte-eq32
returns-then-byte-eq32 c = search (field_next, rules)

pub returns-else-byte-eq32 : goal.returns-else-byte-eq32
returns-else-byte-eq32 c = search (field-other, rules)
