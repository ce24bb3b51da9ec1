pub mod Lines
pub mod Answering
pub mod Chunks
pub mod Sessions
pub mod Remaining
pub mod Tidying
pub mod Progress
pub mod Examples
