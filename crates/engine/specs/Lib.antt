-- what the calls promise
pub mod LoadContract
pub mod MoveContract
pub mod RunContract
