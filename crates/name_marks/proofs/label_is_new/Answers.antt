-- `label_is_new` meets its contract: by the marks, or by comparison.
-- Assumes nothing.
use borrow.Author.Rules.{rules}
use Rattle.name_marks.proofs.MarkLaws.{label-none, marks-same, marks-named, label-free}
use Rattle.name_marks.proofs.label_is_new.Goals as goal

pub returns-then-mark_new : goal.returns-then-mark_new
returns-then-mark_new c = search (label-free, marks-named, rules)

pub returns-else-mark_new : goal.returns-else-mark_new
returns-else-mark_new c = search marks-named

pub returns-else-named : goal.returns-else-named
returns-else-named c = search (label-none, marks-same)
