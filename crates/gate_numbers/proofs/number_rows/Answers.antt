-- `number_rows` meets its contract.
-- Assumes nothing.
use borrow.Author.Rules.{rules}
use Rattle.gate_numbers.proofs.RoundLaws.{nodes-fit, all-numbered}
use Rattle.gate_numbers.proofs.number_rows.Goals as goal

pub number_kinds-requires : goal.number_kinds-requires
number_kinds-requires c = (search rules, (nodes-fit _ _ _ c.requires.source.0 _ _ c.place_gates-nodes.ensures, search rules))

pub returns-clause-numbered : goal.returns-clause-numbered
returns-clause-numbered c = search all-numbered
