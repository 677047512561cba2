-- A reader must believe: Grammar (what is written, and its tokens), Automaton (the states of a reader), Events (what is read), Reading (what the answers of readers say), Stacks, Laws.
pub mod Automaton
pub mod Events
pub mod Grammar
pub mod Laws
pub mod Reading
pub mod Stacks
