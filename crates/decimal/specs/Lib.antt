pub mod Decimal
pub mod Written
pub mod Laws
pub mod Cases
