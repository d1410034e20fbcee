-- The laws of the order.
pub mod PlacingLaws
pub mod LoopMeaning
pub mod LoopLaws
pub mod OrderLaws
pub mod EquationLaws
pub mod InOrder
pub mod SortRefusalMeaning
pub mod SortPromise
