pub mod Transfers
pub mod Turns
