pub mod Cases
pub mod MasksHoldBack
