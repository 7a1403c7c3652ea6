pub mod Agree
pub mod Way
