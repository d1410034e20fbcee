-- `literal_image` reads a literal's image: that of its node, complemented if the literal is.
-- Assumes nothing.
use Rattle.row_images.proofs.ImageWays.{literal-even, literal-odd}
use Rattle.row_images.proofs.literal_image.Goals as goal

pub returns-then-l-eq0 : goal.returns-then-l-eq0
returns-then-l-eq0 c = search literal-even

pub returns-else-l-eq0 : goal.returns-else-l-eq0
returns-else-l-eq0 c = search literal-odd
