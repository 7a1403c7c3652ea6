pub mod Answers
pub mod Number
pub mod NumberLaws
pub mod Window
