pub mod Output
pub mod Taking
pub mod Chunk
pub mod Session
pub mod Trace
pub mod Invariant
