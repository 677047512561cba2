-- A reader must believe both: Switches (what a switch may do, in seven steps) and Devices (what a device means, and what its calls do to that).
pub mod Devices
pub mod Switches
