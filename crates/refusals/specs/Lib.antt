-- which answer of document 01 an answer is, whatever its refusal is told by
pub mod ReturnedAs
