-- The gates that name a node, and their lists.
pub mod Users
