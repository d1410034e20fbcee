-- A step's values, and what the steps of a run are given and leave.
pub mod StepValues
pub mod Steps
