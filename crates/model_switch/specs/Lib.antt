-- A reader must believe: Answers (what a model switch answers to a message), States (what is seen of one, and what its calls do), Meanings (what each device means),
-- Draws (which message is drawn), Faults (which calls fail), Logs (the calls that are told), Refusals (which flow mods are refused), Lies (which turn says more than its answer).
-- Kept and Parts serve private contracts and proofs alone.
pub mod Answers
pub mod Draws
pub mod Faults
pub mod Kept
pub mod Lies
pub mod Logs
pub mod Meanings
pub mod Parts
pub mod Refusals
pub mod States
