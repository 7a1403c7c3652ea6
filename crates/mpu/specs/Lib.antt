pub mod Pmsav8
pub mod Registers
pub mod Editions
pub mod Soundness
pub mod Unused
pub mod Laws
pub mod Pmsav8Laws
pub mod Cases
