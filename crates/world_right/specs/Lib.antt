-- Hits says what a stage promises of the switch's table; Laws, which a reader must believe, what holds of every run of the world.
pub mod Hits
pub mod Laws
