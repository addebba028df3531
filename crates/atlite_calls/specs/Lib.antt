-- the numbers of the answers
pub mod Numbers
-- which numbers there are
pub mod Causes
pub mod Reading
pub mod Returned
