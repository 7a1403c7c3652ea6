pub mod Cases
pub mod GuardEditions
