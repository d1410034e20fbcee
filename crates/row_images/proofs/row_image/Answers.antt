-- `row_image` gives the model's image, kind by kind, and for a kind above 6 one that names no row. What its literals name is in range, as the contract asks.
-- Assumes nothing.
use borrow.Author.Rules.{rules}
use Rattle.row_images.proofs.ImageWays.{row-few, row_inside, next_fits, and-first-fits, and-second-fits, xor-first-fits, xor-second-fits, mux-first-fits, mux-second-fits, mux-third-fits, output-fits, image-constant, image-input, image-register, image-and, image-xor, image-mux, image-output, image-unknown}
use Rattle.row_images.proofs.row_image.Goals as goal

pub read_row-x-requires : goal.read_row-x-requires
read_row-x-requires c = (search row-few, search row_inside)

pub register_image-requires : goal.register_image-requires
register_image-requires c = search (rules, next_fits)

pub literal_image-requires : goal.literal_image-requires
literal_image-requires c = search (rules, and-first-fits)

pub literal_image-requires-in-3 : goal.literal_image-requires-in-3
literal_image-requires-in-3 c = search (rules, and-second-fits)

pub literal_image-requires-in-4 : goal.literal_image-requires-in-4
literal_image-requires-in-4 c = search (rules, xor-first-fits)

pub literal_image-requires-in-4-2 : goal.literal_image-requires-in-4-2
literal_image-requires-in-4-2 c = search (rules, xor-second-fits)

pub literal_image-requires-in-5 : goal.literal_image-requires-in-5
literal_image-requires-in-5 c = search (rules, mux-first-fits)

pub literal_image-requires-in-5-2 : goal.literal_image-requires-in-5-2
literal_image-requires-in-5-2 c = search (rules, mux-second-fits)

pub literal_image-requires-in-5-3 : goal.literal_image-requires-in-5-3
literal_image-requires-in-5-3 c = search (rules, mux-third-fits)

pub literal_image-requires-in-6 : goal.literal_image-requires-in-6
literal_image-requires-in-6 c = search (rules, output-fits)

pub returns-in-7-to-255 : goal.returns-in-7-to-255
returns-in-7-to-255 c = search image-unknown

pub returns-in-0 : goal.returns-in-0
returns-in-0 c = search image-constant

pub returns-in-1 : goal.returns-in-1
returns-in-1 c = search image-input

pub returns-in-2 : goal.returns-in-2
returns-in-2 c = search image-register

pub returns-in-3 : goal.returns-in-3
returns-in-3 c = search image-and

pub returns-in-4 : goal.returns-in-4
returns-in-4 c = search image-xor

pub returns-in-5 : goal.returns-in-5
returns-in-5 c = search image-mux

pub returns-in-6 : goal.returns-in-6
returns-in-6 c = search image-output
