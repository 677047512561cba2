pub mod Addresses
pub mod Digits
pub mod PartsOf
pub mod Splits
