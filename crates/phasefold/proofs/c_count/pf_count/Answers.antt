-- `phasefold::c_count::pf_count` gives Count's answer as numbers.
-- Assumes nothing.
use Rattle.phasefold.proofs.ForeignLaws.{counts-fit, count-flat, count-refused-flat}
use Rattle.phasefold.proofs.c_count.pf_count.Goals as goal

pub counts_numbers-requires : goal.counts_numbers-requires
counts_numbers-requires c = search counts-fit

pub returns-in-Ok : goal.returns-in-Ok
returns-in-Ok c = search count-flat

pub returns-in-Err : goal.returns-in-Err
returns-in-Err c = search count-refused-flat
