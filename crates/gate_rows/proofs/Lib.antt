-- Rows by their layout, the operands of gates, and what is known of rows whose gates stand in any order.
pub mod SourceLaws
pub mod PairLaws
pub mod OperandLaws
pub mod RowLaws
