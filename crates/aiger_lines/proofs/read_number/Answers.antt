-- `read_number` meets its contract: a 0 ends there, and other digits go on.
-- Assumes nothing.
use borrow.Author.Rules.{rules}
use Rattle.aiger_lines.proofs.ReadingLaws.{number_short, number-zero, number-other, number_more}
use Rattle.aiger_lines.proofs.read_number.Goals as goal

pub returns-then-at-text : goal.returns-then-at-text
returns-then-at-text c = search (number_short, rules)

pub returns-then-byte-eq48 : goal.returns-then-byte-eq48
returns-then-byte-eq48 c = search (number-zero, rules)

pub returns-then-not-is_ascii_digit : goal.returns-then-not-is_ascii_digit
returns-then-not-is_ascii_digit c = search (number-other, rules)

pub returns : goal.returns
returns c = search (number_more, rules)
