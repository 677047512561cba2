pub mod FaultNumbers
pub mod Places
