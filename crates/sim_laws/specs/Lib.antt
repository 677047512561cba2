-- A reader must believe Laws: what holds of all deeds.
pub mod Laws
