pub mod Counted
pub mod Live
pub mod Values
