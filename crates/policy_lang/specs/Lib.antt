-- A reader must believe: Tree (the plain tree of a policy), TreeOf (the tree that code stands for), Blocks (the expressions of an `out`), Nodes (the nodes of a policy, their places and their limits),
-- Faults (what is wrong with names and types), Built (what building answers), PolicyTree (the plain tree of a whole policy), Sound (numbers and names), Sizes (how many nodes there are), Laws.
-- Forms and Walks say the same of values of the program. Found, NodeWalks and Scopes serve private contracts and proofs alone.
pub mod Blocks
pub mod Built
pub mod Faults
pub mod Forms
pub mod Found
pub mod Laws
pub mod NodeWalks
pub mod Nodes
pub mod PolicyTree
pub mod Scopes
pub mod Sizes
pub mod Sound
pub mod Tree
pub mod TreeOf
pub mod Walks
