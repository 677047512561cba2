-- A reader must believe: Views (what clauses see of a board over sockets), Starts (whether it was started), Openings (the numbers of connections). The
-- others serve the proofs: Numbers (each connection gets the next number), Keeping (what is true of every board).
pub mod Keeping
pub mod Numbers
pub mod Openings
pub mod Starts
pub mod Views
