-- what the code is proved against
pub mod TextOfState
pub mod SlotContract
-- the laws of its functions
pub mod SlotLaws
pub mod ActorLaws
-- the words of a state show its listing
pub mod TermText
pub mod Messages
pub mod Entities
pub mod States
-- what listing promises
pub mod Bounds
pub mod ListContract
