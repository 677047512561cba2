-- What the queue keeps, and what a pass of it knows.
pub mod Accounts
-- The words of the contracts over a queue and its passes.
pub mod Takers
-- What the lobby keeps.
pub mod Lobbies
-- What a worker and a crew did.
pub mod Tasks
pub mod Crews
