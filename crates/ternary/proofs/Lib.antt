-- The laws of the three-valued rules, and of tables and formulas of codes.
pub mod RuleLaws
pub mod FormulaLaws
pub mod Tables
