pub mod Cases
pub mod PriorityBits
