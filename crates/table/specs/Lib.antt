pub mod Fields
pub mod Headers
pub mod Checked
pub mod Leaves
pub mod Walk
pub mod Tested
pub mod Write
