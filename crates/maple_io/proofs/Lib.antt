-- Copies: what a copied slice has. Cuts: turns that are given in parts. Ends: the end of a source. Giving: what a turn leaves. Links: what is closed.
-- Logged: one act more. Pieces: what is written. Reading: what is read. Rooms: where there is no room. Sounds: what is true of a board over memory.
pub mod Copies
pub mod Cuts
pub mod Ends
pub mod Giving
pub mod Links
pub mod Logged
pub mod Pieces
pub mod Reading
pub mod Rooms
pub mod Sounds
