-- A reader must believe: Batches (the two batches from one list of rules to another), Laws (what a table has while they are carried out). Lookups serves private contracts and
-- proofs alone.
pub mod Batches
pub mod Laws
pub mod Lookups
