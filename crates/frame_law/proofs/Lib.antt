pub mod Facts
pub mod Opening
pub mod Packets
pub mod Whole
