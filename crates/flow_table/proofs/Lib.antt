pub mod Matches
pub mod Standing
pub mod Places
pub mod Keeping
pub mod Changing
