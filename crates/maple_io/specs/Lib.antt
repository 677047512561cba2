-- A reader must believe: Answers (what a source answers to reads), Views (what a source and a sink tell), Reads and Writes (what a read and a write do to it), Memory (the four numbers of a source and a sink over memory),
-- Adapters (what stands for a reader and a writer of std), Fronts (what stands at the front of bytes), Boards (what a board tells, and what of its log is
-- what), Turns (what each of its calls adds to that, and counts), Schedules (what a board over memory tells, and what comes of its turns). Kept serves its private
-- fields: what is seen of them, and their invariant.
pub mod Adapters
pub mod Answers
pub mod Boards
pub mod Fronts
pub mod Kept
pub mod Memory
pub mod Reads
pub mod Schedules
pub mod Turns
pub mod Views
pub mod Writes
