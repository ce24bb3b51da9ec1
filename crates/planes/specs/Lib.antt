pub mod Cells
pub mod Budget
pub mod Join
pub mod Whole
pub mod Stretches
pub mod Fill
pub mod RepeatBody
