-- Opened: what was opened by both logs of a slow board.
pub mod Opened
