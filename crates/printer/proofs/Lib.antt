pub mod Storing
pub mod AtomTokens
pub mod Walking
pub mod Writing
