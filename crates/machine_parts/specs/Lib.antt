-- Seen says how the parts are seen as the `State` of machine_steps, and what they always keep ready. Aiming says what is made ready for the sessions ahead of
-- an update, Answering what an answer does at one, Sessions what is seen of connections. Ready says which line tells that a session is ready; the other lines
-- are those of machine_steps.
pub mod Aiming
pub mod Answering
pub mod Finding
pub mod Hearing
pub mod Ready
pub mod Seen
pub mod Sessions
