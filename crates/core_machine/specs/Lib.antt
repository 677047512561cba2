-- The machine is seen as the `State` of machine_steps (Seen of machine_parts says how). Reaching says what an update and another policy do, Following what
-- may follow behind the line of a state, Joining what a FEATURES_REPLY does (`Joined`), Packets what a PACKET_IN does (`HearsPacketOf`). They, Advancing,
-- Concluding and Hearing serve private contracts.
pub mod Advancing
pub mod Concluding
pub mod Following
pub mod Hearing
pub mod Joining
pub mod Packets
pub mod Reaching
