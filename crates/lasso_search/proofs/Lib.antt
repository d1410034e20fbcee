-- Laws of equal states as words, and of the search.
pub mod WordLaws
pub mod SearchLaws
