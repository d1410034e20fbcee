use borrow.Author.Rules.{rules}
use Rattle.aiger_lines.proofs.RightLaws.{padded-few}
use Rattle.aiger_lines.proofs.StandLaws.{read-start, read_more, no-outputs, not-read, not_right, all_read}
use Rattle.aiger_lines.proofs.lines_right.Goals as goal

pub returns-then-h-eq0 : goal.returns-then-h-eq0
returns-then-h-eq0 c = search no-outputs

pub loop-k-init : goal.loop-k-init
loop-k-init c = search (read-start, rules)

pub returns-in_default : goal.returns-in_default
returns-in_default c = search (not-read, rules)

pub line_right-requires : goal.line_right-requires
line_right-requires c = padded-few _ _ c.in-Some.ensures.padded

pub returns-then-not-line_right : goal.returns-then-not-line_right
returns-then-not-line_right c = search (not_right, rules)

pub loop-k-preserved : goal.loop-k-preserved
loop-k-preserved c = search (read_more, rules)

pub returns : goal.returns
returns c = search (all_read, rules)
