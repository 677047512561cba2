mod Aims
mod Alike
mod Answering
mod Arriving
pub mod Backing
mod Batches
mod Bodies
mod Clearings
mod Dealing
mod FlightHearing
mod Flying
mod Going
mod Joining
pub mod Lacking
mod Leading
mod Leaving
mod Lists
mod Moved
mod Numbers
mod Once
mod Onward
mod Premises
mod Sending
mod Signals
mod Stages
pub mod Steady
mod Steps
mod TurnHearing
mod Turning
