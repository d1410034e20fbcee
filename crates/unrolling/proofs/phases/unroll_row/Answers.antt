-- `unroll_row` takes the unrolling one row further.
-- Assumes nothing.
use borrow.Author.Rules.{rules}
use Rattle.unrolling.proofs.PhaseLaws.{row_small, row_fits, row_done, row_kept}
use Rattle.unrolling.proofs.phases.unroll_row.Goals as goal

pub store_image-requires-clause-k_lt_most_phases : goal.store_image-requires-clause-k_lt_most_phases
store_image-requires-clause-k_lt_most_phases c = (search rules, search row_small, search row_fits)

pub returns : goal.returns
returns c = (search row_done, search row_kept)
