pub mod Demand3
pub mod Bounds
pub mod ComesAndGoes
