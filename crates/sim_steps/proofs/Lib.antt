-- Broken: what was broken off. Joining: one stretch behind another. Others: what others do. Moments: stretches of one deed, or of a failed call with the session's end behind it. Silent: turns of the machine that touch no device.
-- Turned: deeds are turns of the machine. Told: the report of a legal history.
pub mod Broken
pub mod Joining
pub mod Moments
pub mod Others
pub mod Silent
pub mod Told
pub mod Turned
