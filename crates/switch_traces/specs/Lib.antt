-- A reader must believe: Traces (the traces of a switch), Lists (the rules of traces, and which traces a switch can be led to),
-- Learning (what becomes of one trace more), Laws.
pub mod Coding
pub mod Laws
pub mod Learning
pub mod Lists
pub mod Traces
