pub mod Closing
pub mod Crewed
pub mod Passing
pub mod Reading
pub mod Rounding
pub mod Turning
