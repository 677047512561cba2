-- A reader must believe: Lists and Parts (the parts of an update, and the messages that they are sent as), Sessions (what is seen of a session, and how it moves), Calls (what each
-- call does), Laws. Room and Kept serve private contracts and proofs alone.
pub mod Calls
pub mod Kept
pub mod Laws
pub mod Lists
pub mod Parts
pub mod Room
pub mod Sessions
