pub mod Flat
pub mod Lengths
pub mod RefusalNumbers
