-- Others: what others do beside the driver, and what that leaves; what is kept where all sessions stay. Slots: the slots of a bench by their channels and devices.
-- Making: which entries make no state. Keeping: what entries leave of the machine. Kept: what the driver keeps behind an entry; Places: where at most one place
-- changed. Staged: a session is opened, heard, or ends. Emptied, Ended, Offered: what a delivery is made of; Delivered: how it is put together. Opening: the
-- driver ahead of its first entry. Resting: a driver at rest has a still bench. Bytes: a message has some. Answering: turns that answer a packet. Broken: where a call stops. Tended:
-- what the driver does with others about packets that wait. Passing: what is known behind one message. Waits:
-- whether a message waits by a channel. Looking: a frame comes to a device.
pub mod Answering
pub mod Broken
pub mod Bytes
pub mod Delivered
pub mod Emptied
pub mod Ended
pub mod Keeping
pub mod Kept
pub mod Looking
pub mod Making
pub mod Offered
pub mod Opening
pub mod Others
pub mod Passing
pub mod Places
pub mod Resting
pub mod Slots
pub mod Staged
pub mod Tended
pub mod Waits
