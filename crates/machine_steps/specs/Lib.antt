-- A reader must believe: Machine (what the machine knows), Steps (what it does at each entry, and what it answers), Admitting (the condition of each entry),
-- Histories (legal histories, and their reports), Waiting (what is told of a packet that waits), Laws.
-- Sound says what holds behind each legal history. Effects and Messages tell what entries change, and what sessions make of messages, as one closed sum each:
-- they follow from Steps and serve proofs alone. Places and Running serve the machine's private contracts.
pub mod Admitting
pub mod Effects
pub mod Histories
pub mod Laws
pub mod Machine
pub mod Messages
pub mod Places
pub mod Running
pub mod Sound
pub mod Steps
pub mod Waiting
