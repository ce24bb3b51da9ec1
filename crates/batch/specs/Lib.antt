pub mod Batch
pub mod Labels
pub mod Each
