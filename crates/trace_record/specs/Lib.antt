-- A reader must believe: Runs (a recorded run, the law of runs, what `record` promises of a call), Laws (two runs don't clash).
-- RunViews says what contracts see of a `Run`; Recorded, Since and Tables are words of private contracts.
pub mod Laws
pub mod Recorded
pub mod RunViews
pub mod Runs
pub mod Since
pub mod Tables
