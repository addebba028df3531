-- what an actor may hold
pub mod Kinds
-- what a word says by itself, and the laws of the functions that test it
pub mod Words
pub mod WordLaws
-- where terms end
pub mod Ends
-- the laws of scopes, names and headers
pub mod NameLaws
pub mod ScopeLaws
pub mod HeaderLaws
