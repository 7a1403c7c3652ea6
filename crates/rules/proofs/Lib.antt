pub mod Table
pub mod Laws
pub mod LineLaws
pub mod CortexM0
pub mod Chip240
pub mod PriorityBits
