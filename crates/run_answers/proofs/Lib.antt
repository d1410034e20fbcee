-- Laws of Run's outcome.
pub mod RanLaws
