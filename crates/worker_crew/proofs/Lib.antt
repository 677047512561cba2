pub mod Lines
pub mod Growing
pub mod Toiling
pub mod Crewing
