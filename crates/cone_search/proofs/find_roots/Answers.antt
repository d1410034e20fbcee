-- The steps of the loop, by the laws of the search.
-- Assumes nothing.
use borrow.Author.Rules.{rules}
use Rattle.cone_search.proofs.ConeSearch.{seeded-none, seeded-more}
use Rattle.cone_search.proofs.find_roots.Goals as goal

pub loop-row-init : goal.loop-row-init
loop-row-init c = search (seeded-none, rules)

pub loop-row-preserved : goal.loop-row-preserved
loop-row-preserved c = search (seeded-more, rules)
