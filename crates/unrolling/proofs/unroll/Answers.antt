-- `unroll`: the phases, the new registers' next values and the outputs make the unrolled netlist, whatever clock agrees with `work`.
-- Assumes nothing.
use borrow.Author.Rules.{rules}
use Rattle.unrolling.proofs.UnrolledWhole.{outputs-fit, patched-few, patched-fit, unroll-count, unroll-stands}
use Rattle.unrolling.proofs.unroll.Goals as goal

pub patch_rows-requires-clause-k_lt_most_phases : goal.patch_rows-requires-clause-k_lt_most_phases
patch_rows-requires-clause-k_lt_most_phases c = (search rules, search patched-few, search patched-fit)

pub output_phases-requires-clause-work_bound : goal.output_phases-requires-clause-work_bound
output_phases-requires-clause-work_bound c = search outputs-fit

pub returns-clause-by_index : goal.returns-clause-by_index
returns-clause-by_index c = λ clock agree. (search unroll-count, search unroll-stands)
