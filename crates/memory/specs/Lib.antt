-- Lists, searches over a run of numbers, little-endian fields, tables of them, and what stays of a run of bytes.
pub mod Lists
pub mod Fields
pub mod Frames
pub mod Slots
