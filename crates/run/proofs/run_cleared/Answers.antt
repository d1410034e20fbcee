-- `run::run_cleared` leaves the run's bytes, and memory cleared.
-- Assumes nothing.
use Rattle.run.proofs.RanLaws.{cleared-again}
use borrow.Author.Rules.{rules}
use Rattle.run.proofs.run_cleared.Goals as goal

pub returns : goal.returns
returns c = search (cleared-again, rules)
