-- Ways through the tree, and the tree with one entry more.
pub mod TreeLaws
