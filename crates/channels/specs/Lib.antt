pub mod Machine
pub mod Actors
pub mod ActorMachine
pub mod Lists
pub mod ResultOrder
pub mod Stable
pub mod Instance
