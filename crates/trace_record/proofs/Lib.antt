pub mod Free
pub mod Recordings
pub mod Runs
pub mod Tables
