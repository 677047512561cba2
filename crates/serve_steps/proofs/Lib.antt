pub mod Control
pub mod Entered
mod Fronts
pub mod Heard
mod Others
mod Reports
mod Sends
pub mod States
mod Taken
