-- A reader must believe: Row (a run that is right, as far as its HELLO, with the machine's states), Whole (the same run to its end, without them), More
-- (other right parts and runs), Ends (other ends), Lines (what lines ask for, and what may stand freely), Wrong (parts that are none).
pub mod Ends
pub mod Lines
pub mod More
pub mod Row
pub mod Whole
pub mod Wrong
