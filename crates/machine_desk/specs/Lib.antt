-- A reader must believe: Desks (what who drives the machine knows of it, and what an entry does), Next (an
-- entry with nothing done between), Openings (what a desk is made of, and one at its start),
-- Orders (what an operator's orders do), Hearing (what comes of a connection, and what becomes of its session), Arriving (the room for a packet), Working (what
-- the work on a packet does), Reports (how the report is written), Resting (how a pass writes what is left of it).
-- Of a driver of any kind: Tending (what it did about packets that wait), Homes (the same by its desk and its crew, and when there is room for a packet),
-- Connections (what it does with one of its connections), Crews (who works beside it, and how its run ends by how they ended), Runs (what it knows of the run).
-- Laws says what follows of the machine's turns meanwhile, Driving names the laws of the machine that all of it rests on.
pub mod Arriving
pub mod Connections
pub mod Crews
pub mod Desks
pub mod Driving
pub mod Hearing
pub mod Homes
pub mod Laws
pub mod Next
pub mod Openings
pub mod Orders
pub mod Reports
pub mod Resting
pub mod Runs
pub mod Tending
pub mod Working
