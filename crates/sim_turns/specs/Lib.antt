-- Turning says what is done when a script asks for an entry, and when a device takes a turn. Taking has words for private contracts and proofs alone: the
-- parts of a turn.
pub mod Taking
pub mod Turning
