-- Laws of marks, of roots, and of the search for the cone.
pub mod MarkLaws
pub mod RootLaws
pub mod ConeSearch
