pub mod Demand1
pub mod Demand3
pub mod Bounds
pub mod ComesAndGoes
pub mod LostPulses
pub mod IdleTime
pub mod GuardEditions
pub mod MasksHoldBack
