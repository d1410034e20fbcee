-- `open_register`: a new register in phase 0, and later the previous phase's image of the next value.
-- Assumes nothing.
use Rattle.row_images.proofs.ImageWays.{open-first, open-later}
use Rattle.row_images.proofs.open_register.Goals as goal

pub returns-then-k-eq0 : goal.returns-then-k-eq0
returns-then-k-eq0 c = search open-first

pub returns-else-k-eq0 : goal.returns-else-k-eq0
returns-else-k-eq0 c = search open-later
