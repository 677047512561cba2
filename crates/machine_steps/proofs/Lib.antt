pub mod Changes
pub mod Effects
pub mod Later
pub mod Learning
pub mod Messages
pub mod Running
pub mod Sending
pub mod Sound
