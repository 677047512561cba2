-- A reader must believe none of these: what a run of `serve` is stands in `serve_steps`, and the contract of `run_serve` in its words. These are the words of
-- the contracts below it.
pub mod Running
pub mod Turning
pub mod Beginning
pub mod Ending
pub mod EndLaws
pub mod Resting
