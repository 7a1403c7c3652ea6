pub mod Alike
pub mod OldScripts
