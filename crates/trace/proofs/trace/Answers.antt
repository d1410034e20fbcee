-- `trace` meets its contract: result and work are cleared at the end.
-- Assumes nothing.
use borrow.Author.Rules.{rules}
use Rattle.trace_answers.proofs.TracedLaws.{traced-by}
use Rattle.trace.proofs.trace.Goals as goal

pub returns : goal.returns
returns c = search (traced-by, rules)
