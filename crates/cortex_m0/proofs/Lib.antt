mod Cases
pub mod SmallCore
