-- A reader must believe: Program (what the program has read and written, over its own devices; Spares, which failed calls were counted, by the status),
-- Texts (what a command runs), Due (which status is due), Refusals, Outcomes (what comes of a run, and what it writes), Ends, Statuses. Which command some
-- words give stands in command_words; what a run of a script does in sim_driver, and what one of `serve` does in serve_steps. Running, RunsOver of Program,
-- and Ends and ClosesBy of Ends serve private contracts alone.
pub mod Due
pub mod Ends
pub mod Outcomes
pub mod Program
pub mod Refusals
pub mod Running
pub mod Statuses
pub mod Texts
