-- Laws of the images in memory, and of a row's image.
pub mod ImageLaws
pub mod ImageWays
