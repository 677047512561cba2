pub mod Aiming
pub mod Closing
mod Heads
pub mod Hears
pub mod Keyed
pub mod Listing
pub mod Opening
pub mod Retiring
pub mod Sending
pub mod Sessions
pub mod Taking
pub mod There
