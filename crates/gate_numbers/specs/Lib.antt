-- The slots while gates are placed, and once every row has its number.
pub mod Numbers
