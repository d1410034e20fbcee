-- Laws of the columns that a fold has, of the values by them, and of what is written.
pub mod KeptLaws
pub mod TakenLaws
pub mod PutLaws
