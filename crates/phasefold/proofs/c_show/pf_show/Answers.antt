-- `phasefold::c_show::pf_show` gives Show's part by its first byte and its size.
-- Assumes nothing.
use Rattle.phasefold.proofs.ShownFlatLaws.{shown-few, size_fits, shown-flat}
use Rattle.phasefold.proofs.c_show.pf_show.Goals as goal

pub overflow_cast-size : goal.overflow_cast-size
overflow_cast-size c = search size_fits

pub part_offset-offset-requires : goal.part_offset-offset-requires
part_offset-offset-requires c = search shown-few

pub returns : goal.returns
returns c = search shown-flat
