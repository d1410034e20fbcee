-- The unrolling in memory.
pub mod UnrollMap
