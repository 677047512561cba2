-- A reader must believe Runs: what a run of a script is, and how it ends. The deeds, and what follows a script, are sim_steps'. Passes, Crewing and
-- Commands serve private contracts alone: an order is obeyed, and followed with its report; a script is run beside workers.
pub mod Commands
pub mod Crewing
pub mod Passes
pub mod Runs
