pub mod Cases
pub mod IdleTime
