-- Taking: the report is taken. Parting: the parts of orders, one behind the other. Reporting: one order is followed.
-- Going: how far a run has come, and how it ends.
-- Beside: workers' passes are joined in. Halls: the hall is closed.
-- Doing, Asking: the deeds are an order's part. Sessions: a session is opened or ends. Wide: at the desk an entry was asked for that is of no place. Calling: a
-- frame comes to a device.
pub mod Asking
pub mod Beside
pub mod Calling
pub mod Doing
pub mod Going
pub mod Halls
pub mod Opened
pub mod Parting
pub mod Reporting
pub mod Sessions
pub mod Taking
pub mod Wide
