pub mod Runs
pub mod WordNumbers
pub mod RunLaws
pub mod Keywords
pub mod WordNumberLaws
pub mod DictionaryLaws
