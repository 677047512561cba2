-- A reader must believe Answers: what the switches here do of what they may.
-- Places says how what the code keeps is seen as messages on their way and a switch, and Said what is sent, as messages. Acts says what an act does.
pub mod Acts
pub mod Answers
pub mod Places
pub mod Said
