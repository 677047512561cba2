-- A reader must believe: Walks (walks, shortest walks, next hops, ways), Graphs (which links have next hops), NextHops (the next hop as a function), Scenes (what a scene has in its cells),
-- Laws (what the function says of all walks).
-- Beside, Levels, Rows, Tables and Ways serve private contracts and proofs alone.
pub mod Beside
pub mod Graphs
pub mod Laws
pub mod Levels
pub mod NextHops
pub mod Rows
pub mod Scenes
pub mod Tables
pub mod Walks
pub mod Ways
