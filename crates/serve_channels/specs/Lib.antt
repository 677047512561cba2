-- A reader must believe none of these: they are the words of the contracts between the layers of a server. What a run of `serve` is stands in `serve_steps`.
pub mod Servers
pub mod Stretches
pub mod Keeping
pub mod Hearing
pub mod Passing
pub mod Delivering
pub mod Feeding
pub mod Serving
pub mod Controlling
pub mod Starting
