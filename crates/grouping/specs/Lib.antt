pub mod Grouping
pub mod Laws
