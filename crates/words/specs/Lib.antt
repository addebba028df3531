pub mod Wide
pub mod Runs
pub mod Puts
