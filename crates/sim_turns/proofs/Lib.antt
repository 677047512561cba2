-- Onward: what is known behind several messages. Attending: what is known behind a delivery then. Entered: an entry that a script asks for, as an event.
-- Noted: what a note leaves. Aside: what others did ahead of an event. Pending: where a message waits. Obeyed: turns are an
-- order's part. Counted: how many sessions are open. Called: a turn is an event. Dealt, Failing: what a turn brings about at
-- once. Told: the same, behind what others did. Broken: where a call stops.
pub mod Aside
pub mod Attending
pub mod Broken
pub mod Called
pub mod Counted
pub mod Dealt
pub mod Entered
pub mod Failing
pub mod Noted
pub mod Obeyed
pub mod Onward
pub mod Pending
pub mod Told
