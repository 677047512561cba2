-- Flights says what is under way between a session and its switch, and where a part of an update is among it, FlightLaws what each step does to that. Backed
-- says that rules are right in one state, Stages what a switch's table may be while what is under way, StageLaws that each step keeps each session in a stage.
-- Updates says what follows in a session behind a reply, an ERROR, an aim; it serves the proofs of the world alone. The promise itself is world_steps' own.
pub mod Backed
pub mod FlightLaws
pub mod Flights
pub mod StageLaws
pub mod Stages
pub mod Updates
