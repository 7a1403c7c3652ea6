pub mod Priority
pub mod Order
pub mod Laws
pub mod First
pub mod Levels
pub mod Counting
