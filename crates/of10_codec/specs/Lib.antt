-- A reader must believe: Types, Matches and Messages (which bytes spell a message), Faults (the first fault of bytes), Lent (messages with lent bytes), Written (the one
-- spelling that is sent), RuleOrder (the order of the rules of a list), Answers (what errors tell), Laws. Reading serves private contracts and proofs alone.
pub mod Answers
pub mod Faults
pub mod Laws
pub mod Lent
pub mod Matches
pub mod Messages
pub mod Reading
pub mod RuleOrder
pub mod Types
pub mod Written
