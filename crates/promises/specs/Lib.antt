-- what each call returns, and what it leaves in each list that it is lent
pub mod Meaning
-- the numbers in which callers in C and Rust read an answer
pub mod CallNumbers
-- two lists of calls
pub mod Claim
-- computed examples
pub mod Examples
