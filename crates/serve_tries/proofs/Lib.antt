mod Ends
mod Lines
mod More
mod Row
mod Smooth
mod Whole
mod Wrong
