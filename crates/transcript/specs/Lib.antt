-- the digits of a byte
pub mod Digits
-- the lines of refusals, and bytes in front of others
pub mod Output
-- the answers of calls
pub mod AnswerTexts
