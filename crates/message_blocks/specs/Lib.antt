-- A reader must believe Spelling: which messages a block may have. Kept serves private contracts and proofs alone.
pub mod Kept
pub mod Spelling
