-- A reader must believe: Current (which traces have the values of now in their cells), Stale (the first cell of a trace that has another value),
-- Live (which of the learned traces live), Laws (what becomes of the live traces and of their tree). Counts is the same number as that of the leaves
-- that are left, for the count's own parts.
pub mod Counts
pub mod Current
pub mod Laws
pub mod Live
pub mod Stale
