-- The fold: gate making, unrolling by phases, cone of influence, compaction; and demand 3 as a statement.
pub mod GateMaking
pub mod Unrolling
pub mod Compaction
pub mod Fold
pub mod SameBehaviour
