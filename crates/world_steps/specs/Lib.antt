-- A reader must believe all: Worlds (the machine and its switches, and each step of the two), Runs (lists of steps, and the history of the machine in them), Since
-- (since which state a switch's rules are right), Right (what holds of each run).
pub mod Right
pub mod Runs
pub mod Since
pub mod Worlds
