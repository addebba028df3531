-- tests, lists and results
pub mod Facts
-- values, substitution, moves
pub mod Laws
-- what a move leaves of the actors that have no part in it
pub mod Others
-- fn and resolve with any term for `this`
pub mod Closures
