pub mod Readers
pub mod Compiling
