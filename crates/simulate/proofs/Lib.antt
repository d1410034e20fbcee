-- Laws of Run's steps: bytes written, places among the rows, the passes over the rows and the walk over blocks, the run, and what it is given.
pub mod WriteLaws
pub mod PlaceLaws
pub mod PassLaws
pub mod WalkLaws
pub mod RunLaws
pub mod GivenLaws
