pub mod Settled
pub mod FillBody
pub mod Steps
pub mod WriteParts
pub mod Answered
pub mod Run
