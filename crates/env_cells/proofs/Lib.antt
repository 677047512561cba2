pub mod Accepted
pub mod Maps
pub mod Overlaid
pub mod Sets
pub mod SortedLists
pub mod NamedTables
pub mod Limits
pub mod LinkFacts
