-- A reader must believe: Asking (a run as a tree of questions), Readings (what a key and an environment make of it), Cells (what was read in cells),
-- Through (which questions earlier answers settle), QuestionLaws (what holds of each tree), Example (a run worked by hand); Values (what expressions give, and
-- what operators make of it), Meaning (what a policy does, as a tree of questions, and plain evaluation), PolicyLaws (what holds of each policy's tree).
-- Leads and Notes serve the contracts of whoever walks a tree with one asker or another.
pub mod Asking
pub mod Cells
pub mod Example
pub mod Leads
pub mod Meaning
pub mod Notes
pub mod PolicyLaws
pub mod QuestionLaws
pub mod Readings
pub mod Through
pub mod Values
