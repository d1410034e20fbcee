-- `image_at` reads the two bytes of an image.
-- Assumes nothing.
use Rattle.row_images.proofs.ImageLaws.{u16-at}
use Rattle.row_images.proofs.image_at.Goals as goal

pub returns : goal.returns
returns c = search u16-at
