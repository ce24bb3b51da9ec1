pub mod Summary
pub mod Packing
pub mod Rows
pub mod Ruling
