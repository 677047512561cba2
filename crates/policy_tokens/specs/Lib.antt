-- A reader must believe: Bytes, Lexemes, Words, Spellings (which tokens a text has), Positions, Tokens, Faults (what is wrong with a text, and which fault is told), Laws.
-- Reading serves private contracts and proofs alone.
pub mod Bytes
pub mod Faults
pub mod Laws
pub mod Lexemes
pub mod Positions
pub mod Reading
pub mod Spellings
pub mod Tokens
pub mod Words
