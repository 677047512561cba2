pub mod CountedFiles
pub mod CountedLimits
pub mod CountedNodes
pub mod Growing
pub mod Outlines
