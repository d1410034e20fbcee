-- Laws of rows, runs, the three-valued run, files, the work that they take, and values as bytes.
pub mod RowLaws
pub mod SimulationLaws
pub mod FileLaws
pub mod WorkLaws
pub mod LayoutLaws
