-- The netlists that can be compacted, the slots of the work memory, and rows moved down.
pub mod Compactable
pub mod Slots
pub mod Moves
