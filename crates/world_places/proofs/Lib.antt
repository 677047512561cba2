pub mod Blocks
pub mod Ports
pub mod Sending
pub mod Waiting
