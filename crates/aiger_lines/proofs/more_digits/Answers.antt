use borrow.Author.Rules.{rules}
use Rattle.aiger_lines.proofs.ReadingLaws.{digits-end, digits-stop, digits-large, digits_more}
use Rattle.aiger_lines.proofs.more_digits.Goals as goal

pub returns-then-not-is_ascii_digit : goal.returns-then-not-is_ascii_digit
returns-then-not-is_ascii_digit c = search (digits-stop, rules)

pub returns-then-longer-gt-LARGEST : goal.returns-then-longer-gt-LARGEST
returns-then-longer-gt-LARGEST c = search (digits-large, rules)

pub loop-i-preserved : goal.loop-i-preserved
loop-i-preserved c = search (digits_more, rules)

pub returns : goal.returns
returns c = search (digits-end, rules)
