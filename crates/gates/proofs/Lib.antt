-- Laws of the gates in code.
pub mod RuleWays
