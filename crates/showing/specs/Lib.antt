-- what the code is proved against
pub mod Writer
pub mod Put
pub mod TextOfWords
pub mod ShowContract
-- the laws of its functions
pub mod PutLaws
pub mod HeadLaws
pub mod ShowLaws
-- what the words of a term or an expression show
pub mod Spelling
pub mod Says
pub mod Words
pub mod Forms
pub mod Operators
