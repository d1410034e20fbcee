-- Who names a node: the gates themselves, and their lists in lent memory.
pub mod UserLaws
pub mod ListedLaws
