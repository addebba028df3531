-- laws that the edits of definitions go against
pub mod Signatures
pub mod ParseHeads
pub mod ParseComplete
pub mod ParseSound
pub mod ParseLaws
pub mod ParseMessages
pub mod Arity
