pub mod Little
pub mod Compared
pub mod Digits
pub mod Moving
