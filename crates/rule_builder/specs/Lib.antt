-- A reader must believe: Chosen (what a switch may choose among the rules of a tree), Laws, Rows (two small trees, row by row). The rules themselves are
-- those of priority_plan.
pub mod Chosen
pub mod Laws
pub mod Rows
