pub mod Maps
pub mod Layout
pub mod Register
pub mod Turns
pub mod Slots
pub mod Sections
