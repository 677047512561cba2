pub mod Lists
pub mod Meant
pub mod Told
pub mod Turned
