-- A reader must believe: Shape (the tree), Growth (how it grows, and which trace a key finds in it), Kept (what is left of it when leaves go), TreeOf (the tree that a node stands for),
-- Bounds (what every tree keeps to), Apart (traces that can stand in one tree), Stands (the traces that a tree stands for), Numbers (traces that their numbers tell apart), Laws (what holds of the tree of a list of traces).
-- Clears, ShapeCode, Walks and `unwound` of Kept serve private contracts and proofs alone.
pub mod Apart
pub mod Bounds
pub mod Clears
pub mod Growth
pub mod Kept
pub mod Laws
pub mod Numbers
pub mod Shape
pub mod ShapeCode
pub mod Stands
pub mod TreeOf
pub mod Walks
