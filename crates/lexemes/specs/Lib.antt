-- what is read, and what each reader promises
pub mod Atoms
pub mod Operators
pub mod Headers
pub mod DescentContract
-- the laws of the readers
pub mod NameLaws
pub mod NumberLaws
pub mod DescentLaws
pub mod AtomLaws
