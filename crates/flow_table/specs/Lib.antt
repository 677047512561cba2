-- A reader must believe: Effects (what a change does and answers), Tables (a table as contracts see it), Shielding (tables that have the barriers of a list of rules).
-- Orders serves private contracts and proofs alone.
pub mod Effects
pub mod Orders
pub mod Shielding
pub mod Tables
