pub mod Places
pub mod Scans
pub mod Bodies
pub mod Counts
