-- what the calls promise
pub mod ListCall
-- what is to be decided of words, and that it is whether they are a state
pub mod Conditions
pub mod StateLaws
-- the laws of the test
pub mod TestLaws
