-- Opened: a connection that was opened stays so in the log.
pub mod Opened
