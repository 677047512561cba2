pub mod Added
pub mod OneFile
pub mod Outs
pub mod Piles
pub mod Replays
pub mod Terms
