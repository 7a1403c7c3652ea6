pub mod History
pub mod Cases
pub mod LostPulses
