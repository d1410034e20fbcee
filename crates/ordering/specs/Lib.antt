-- Gates in any order: their order, loops of them, their equations, Sort's questions, what a refusal means, and what a sort guarantees.
pub mod GateOrder
pub mod Loops
pub mod Equations
pub mod SortQuestions
pub mod SortRefusalWords
pub mod SortGuarantee
