-- what everything rests on
pub mod Base
-- script text
pub mod Script
pub mod Keywords
pub mod Lexicon
pub mod Printer
pub mod Scope
pub mod Reader
pub mod Table
-- expansion
pub mod Term
pub mod Subst
pub mod Expansion
-- states
pub mod State
pub mod Limits
pub mod Valid
-- moves
pub mod Redex
pub mod Outcome
pub mod Passing
pub mod Rules
pub mod Move
-- calls on states
pub mod Load
pub mod Run
pub mod Listing
-- what the code answers, and what the programs print
pub mod Causes
pub mod Answers
pub mod Program
pub mod Loops
pub mod Replay
pub mod Examples
