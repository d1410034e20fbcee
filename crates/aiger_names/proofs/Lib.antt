-- The laws of windows.
pub mod LineRowLaws
pub mod WindowLaws
pub mod FillLaws
pub mod CountLaws
pub mod PairLaws
pub mod LookLaws
pub mod TakeLaws
