-- Each step of the machine keeps a sound state.
pub mod Aims
pub mod Alike
pub mod Answering
pub mod Deciding
pub mod Following
pub mod Hearing
pub mod Joined
pub mod Kept
pub mod Keys
pub mod Known
pub mod Linked
pub mod Moves
pub mod Packets
pub mod Reached
pub mod Replaced
pub mod Stepping
pub mod Zipped
