pub mod Leaves
pub mod Descent
pub mod Written
pub mod Readers
pub mod Answers
