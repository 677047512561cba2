-- Tests of what calls require, and what holds of a machine that calls drive.
pub mod Driving
pub mod Entries
pub mod Targets
