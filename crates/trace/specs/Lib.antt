-- What Trace plans and makes of a fold.
pub mod TracePlans
