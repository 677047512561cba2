pub mod Checks
pub mod Draws
pub mod Lines
pub mod Packets
pub mod Policies
pub mod Refusals
