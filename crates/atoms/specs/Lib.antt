pub mod Atoms
pub mod Records
