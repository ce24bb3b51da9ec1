pub mod Places
pub mod Steps
mod Texts
mod Bodies
mod Reaches
mod Digits
mod Counts
