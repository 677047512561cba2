-- A reader must believe: Frames (the key of a frame, the numbers of faults). Readings serves private contracts and proofs alone.
pub mod Frames
pub mod Readings
