-- A reader must believe Laws.
pub mod Laws
