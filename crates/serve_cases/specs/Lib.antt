-- Slow: what the slow board of the cases tells.
pub mod Slow
