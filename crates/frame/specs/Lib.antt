pub mod Frame
pub mod Accepted
pub mod Answers
pub mod FrameLaws
pub mod RoundTrip
