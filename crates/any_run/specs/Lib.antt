pub mod Progress
pub mod Joined
