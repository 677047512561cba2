-- A reader must believe Moves (what a world does for each move, and what it answers) with Answers of world_places, and of Kept
-- IsOpening and IsRightRun (how a world begins, and what holds of it). Places says how what the code keeps is seen as links. Acts serves private contracts.
pub mod Acts
pub mod Kept
pub mod Moves
pub mod Places
