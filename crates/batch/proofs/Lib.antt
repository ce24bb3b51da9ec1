pub mod Labels
pub mod Placing
pub mod Fitting
pub mod Turns
pub mod Cases
pub mod InTurn
pub mod Batches
pub mod Examples
