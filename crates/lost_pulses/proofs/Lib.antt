mod Frame
pub mod Cases
pub mod LostPulses
