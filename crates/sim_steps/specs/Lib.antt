-- A reader must believe Benches (the machine, the devices at their places, and what is on its way between the two), Deeds (what is done with them), Parts
-- (which deeds follow a script's orders), Agreeing (what the devices show of them), Showing (the run of the world that deeds are, where the devices keep the
-- specification), Ends (what is said at the end of a run: of the machine, its history and what was written). Stretches has words for the contracts of who
-- drives the machine and devices (some deeds, one after the other, and which of them were asked for): a reader of the simulator's promise need not read it.
pub mod Agreeing
pub mod Benches
pub mod Deeds
pub mod Ends
pub mod Parts
pub mod Showing
pub mod Stretches
