-- Laws of numbers in an order, of gates that become ready, of the sources, of one gate placed, and of all rows numbered.
pub mod NumberLaws
pub mod WakingLaws
pub mod SourceLaws
pub mod PlacementLaws
pub mod RoundLaws
