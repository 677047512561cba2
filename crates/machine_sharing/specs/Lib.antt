-- A reader must believe: Sharing (a turn of a shared history, and what a pass that doesn't lead may enter), Between (what allowed entries leave as it is),
-- Longer (what stands in every longer history), Legal (legal histories of calls and of turns).
pub mod Between
pub mod Legal
pub mod Longer
pub mod Sharing
