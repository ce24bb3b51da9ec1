pub mod Sizes
pub mod Rooms
pub mod Text
pub mod Reply
pub mod Stores
