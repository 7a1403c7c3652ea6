pub mod Cases
pub mod SmallCore
