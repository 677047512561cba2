-- Channels says which bench the driver is with its devices, and what it keeps of each channel; Waiting, what is left to do; Resting, what keeps that;
-- Hearing, what hearing leaves of the channels; Staging, how a session stands, and what opens and ends it; Turns, in which devices a message waits.
-- Passes says what is known behind one message that was heard, Looking, behind a frame that came to a device.
-- Delivering serves private contracts, but for Leaves, with which leaving a device is said.
pub mod Channels
pub mod Delivering
pub mod Hearing
pub mod Looking
pub mod Passes
pub mod Resting
pub mod Staging
pub mod Turns
pub mod Waiting
