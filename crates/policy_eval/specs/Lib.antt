-- A reader must believe: Data (what data stand for), Scopes (which names are in force), Answers (the limits of a budget).
-- Walked, ExpressionParts, StatementParts and Evaluated serve private contracts alone.
pub mod Answers
pub mod Data
pub mod Evaluated
pub mod ExpressionParts
pub mod Scopes
pub mod StatementParts
pub mod Walked
