pub mod Chains
pub mod Counted
pub mod Grows
pub mod Left
pub mod Listed
pub mod Places
pub mod Shrinks
pub mod Spans
