pub mod Echoes
pub mod Planned
pub mod Settled
