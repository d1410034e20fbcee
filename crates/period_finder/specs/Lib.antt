-- The periods in the work memory.
pub mod PeriodStage
