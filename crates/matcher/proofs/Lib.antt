pub mod Levels
pub mod Groups
pub mod Settling
pub mod Following
pub mod Ends
pub mod Runs
pub mod Refusals
pub mod Cases
