pub mod Goods
pub mod Views
