-- Moves says what a turn of the machine does to one session, MoveLaws that each turn does so. The machine itself is machine_steps'. Told says what a reply
-- tells of the machine's sessions, jobs, states and policy. A reader must believe Sends: what the machine sends can be offered to a switch.
pub mod MoveLaws
pub mod Moves
pub mod Sends
pub mod Told
