-- A reader must believe: Numbers (what a word spells), Parts (the parts of a text).
-- FixedParts serves private contracts and proofs alone.
pub mod FixedParts
pub mod Numbers
pub mod Parts
