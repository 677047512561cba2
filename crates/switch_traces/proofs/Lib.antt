pub mod Fit
pub mod Last
