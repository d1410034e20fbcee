-- The rows that the walks go through, a walk, its steps in the code, and the walks from all gates.
pub mod RowLaws
pub mod WalkLaws
pub mod SettleLaws
pub mod SearchLaws
