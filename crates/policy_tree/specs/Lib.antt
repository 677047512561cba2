-- A reader must believe: Building (what `build` gives), Trees (the syntax tree of what is written), Laws.
-- Machine, Piles and Stands serve private contracts and proofs alone.
pub mod Building
pub mod Laws
pub mod Machine
pub mod Piles
pub mod Stands
pub mod Trees
