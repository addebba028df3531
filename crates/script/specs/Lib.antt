pub mod ReadContract
pub mod ReaderCauses
pub mod ParserAnswer
pub mod PrintContract
pub mod Reprinting
pub mod TableTest
