-- Laws of the stages one after the other.
pub mod AnalysisLaws
