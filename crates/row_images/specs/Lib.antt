-- Where images stand.
pub mod ImageMap
