-- A reader must believe: Rules (levels, facts and barriers of a tree, and which must stand below which), Laws, Chains (rules that show that there are no fewer levels).
-- Counts, Emptied, Highest and Standing serve private contracts and proofs alone.
pub mod Chains
pub mod Counts
pub mod Emptied
pub mod Highest
pub mod Laws
pub mod Rules
pub mod Standing
