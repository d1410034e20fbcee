-- `number_sources` meets its contract.
-- Assumes nothing.
use borrow.Author.Rules.{rules}
use Rattle.gate_numbers.proofs.SourceLaws.{kinds-fit, sources-count, sources-numbered}
use Rattle.gate_numbers.proofs.number_sources.Goals as goal

pub number_kinds-requires : goal.number_kinds-requires
number_kinds-requires c = (search rules, (search kinds-fit, search rules))

pub returns-clause-value : goal.returns-clause-value
returns-clause-value c = search sources-count

pub returns-clause-sources_numbered : goal.returns-clause-sources_numbered
returns-clause-sources_numbered c = search sources-numbered
