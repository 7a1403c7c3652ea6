pub mod Timer
pub mod Laws
pub mod Skip
pub mod ClosedForm
pub mod SkipLaws
