-- the first line of an input
pub mod Limits
pub mod Lines
-- what it says: entries of a schedule, or calls
pub mod Entries
pub mod Schedules
pub mod Tokens
