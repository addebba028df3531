-- whether data is a state
pub mod ValidTest
-- which form a word's kind stands for
pub mod Kinds
-- the state that words are
pub mod Reading
pub mod TermReading
pub mod Decode
-- the table that words are
pub mod TableReading
