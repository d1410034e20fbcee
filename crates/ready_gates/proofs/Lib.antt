-- The lowest ready row, sought group by group, and slots that become ready or are placed.
pub mod ReadyLaws
