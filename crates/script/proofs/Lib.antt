pub mod Arguments
pub mod Spelling
