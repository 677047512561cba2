-- A reader must believe: Live (the events of a switch in a history, and its live traces, by tree_prune's definition), Jobs (which packet an answer is for, and
-- plain evaluation of it), Exact, Laws.
pub mod Exact
pub mod Jobs
pub mod Laws
pub mod Live
