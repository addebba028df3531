pub mod Entries
-- the laws of the functions
pub mod WordLaws
pub mod EntryLaws
