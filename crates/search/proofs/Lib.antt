pub mod Steps
pub mod Passing
pub mod Endings
pub mod InTurn
pub mod Searches
pub mod Examples
pub mod Looking
pub mod Underway
