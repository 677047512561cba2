pub mod Choice
pub mod Distinct
pub mod Fixes
pub mod Forms
pub mod Paths
