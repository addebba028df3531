-- what both programs share: the state that a script starts in, and its listing
pub mod Limits
pub mod Starts
pub mod Listings
-- `loops`: the run behind the schedule line
pub mod Schedules
-- `replay`: the calls behind their line
pub mod Calls
pub mod Replays
-- how much of an input decides
pub mod Inputs
