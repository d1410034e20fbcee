-- `find_fanins` meets its contract: as many rows are found as the kind has literals.
-- Assumes nothing.
use Rattle.cone_search.proofs.RootLaws.{found-three}
use Rattle.cone_search.proofs.find_fanins.Goals as goal

pub returns : goal.returns
returns c = search found-three
