pub mod Drawn
pub mod Lengths
mod Texts
mod Totals
