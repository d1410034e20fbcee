-- Laws of the periods, and of how many divide a number.
pub mod PeriodLaws
pub mod CountLaws
