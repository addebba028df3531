-- the number of an answer of any kind
pub mod Status
