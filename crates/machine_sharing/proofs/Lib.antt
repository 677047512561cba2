pub mod Doing
pub mod Frozen
pub mod Legal
pub mod Lists
pub mod Longer
pub mod Staying
