-- Outboxes: what the outbox of the cases tells.
pub mod Outboxes
