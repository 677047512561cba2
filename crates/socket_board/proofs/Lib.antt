-- Kept: what is true of every board stays true behind each call. Numbered: the numbers of connections.
pub mod Kept
pub mod Numbered
