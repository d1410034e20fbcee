-- Numbers in a tree.
pub mod Trees
