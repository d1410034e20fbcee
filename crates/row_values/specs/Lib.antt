-- Values in lent memory, and a row's value in a step of Run.
pub mod Values
