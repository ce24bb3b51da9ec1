pub mod Walk
pub mod Outputs
