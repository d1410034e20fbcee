-- `register_image` goes by what is known of the row.
-- Assumes nothing.
use Rattle.row_images.proofs.ImageWays.{register-open, register-known}
use Rattle.row_images.proofs.register_image.Goals as goal

pub returns-then-work-offset-eq0 : goal.returns-then-work-offset-eq0
returns-then-work-offset-eq0 c = search register-open

pub returns : goal.returns
returns c = search register-known
