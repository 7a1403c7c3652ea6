pub mod Pmsav8
pub mod Editions
pub mod EditionLaws
pub mod Pmsav8Laws
