-- The slots of rows that can be placed next, and the marks of their groups.
pub mod ReadySlots
