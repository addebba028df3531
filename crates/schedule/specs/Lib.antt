-- why the claim of crate `promises` holds
pub mod Entries
pub mod TwoLists
-- of calls that code made
pub mod CallHistories
-- that it is not about nothing
pub mod Examples
