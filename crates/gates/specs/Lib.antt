-- The code's images.
pub mod ImageCode
