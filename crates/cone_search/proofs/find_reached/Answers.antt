-- The steps of the loop, by the laws of the search.
-- Assumes nothing.
use borrow.Author.Rules.{rules}
use Rattle.cone_search.proofs.ConeSearch.{reaching-start, visit-room, visit-less, visit-next, reaching-end}
use Rattle.cone_search.proofs.find_reached.Goals as goal

pub visits-init : goal.visits-init
visits-init c = search reaching-start

pub slot_at-slot-requires : goal.slot_at-slot-requires
slot_at-slot-requires c = search visit-room

pub visits-smaller : goal.visits-smaller
visits-smaller c = search visit-less

pub visits-preserved : goal.visits-preserved
visits-preserved c = search (visit-next, rules)

pub returns : goal.returns
returns c = search reaching-end
