-- A reader must believe: FileNodes (the nodes of a text and where they lie), Limits (limits, faults, outlines, laws).
-- Bounds, Counts, Counting, Outlining and Scanning serve private contracts and proofs alone.
pub mod Bounds
pub mod Counting
pub mod Counts
pub mod FileNodes
pub mod Limits
pub mod Outlining
pub mod Scanning
