pub mod Carried
pub mod Crossing
pub mod Entered
pub mod Keeping
pub mod Spelled
