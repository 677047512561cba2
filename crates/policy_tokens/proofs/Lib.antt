pub mod FirstFaults
pub mod Firsts
pub mod LaidOut
pub mod Order
pub mod Parts
pub mod Readings
pub mod Steps
pub mod WordFaults
