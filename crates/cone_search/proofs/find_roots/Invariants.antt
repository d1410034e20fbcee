-- `find_roots` meets its contract. The loop's invariant: the roots before `row` are found, and no others.
-- Assumes nothing.
use Rattle.cone_search.proofs.ConeSearch.{Seeded}
use Rattle.cone_search.proofs.find_roots.Given as goal

abbrev pub invariant-loop-row : goal.invariant-loop-row
invariant-loop-row l = Seeded l.res l.slots l.rows l.row l.found
