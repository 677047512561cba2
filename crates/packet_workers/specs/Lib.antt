-- A reader must believe Adding (what a pass did) and Rounds (what `work` adds to its pass, and what it answers). Pieces has words of private contracts.
pub mod Adding
pub mod Pieces
pub mod Rounds
-- What a crew's worker makes of a packet
pub mod Crewing
