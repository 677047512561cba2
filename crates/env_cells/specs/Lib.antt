-- A reader must believe: Environment (what is known of a network), Changes and Named (the environment after an update), Listed (the ports that a list says are up), Refusals (why an update is
-- refused), Values (what there is in a cell), Limits, Most, Lists (what holds of environments and their links).
-- FewNames is a lemma for callers, KeyOrders has those on the orders of the keys. Answers, Behind, Sorted, and of Named what is not cited by Changes, serve private contracts and proofs alone.
pub mod Answers
pub mod Behind
pub mod Changes
pub mod Environment
pub mod FewNames
pub mod KeyOrders
pub mod Limits
pub mod Listed
pub mod Lists
pub mod Most
pub mod Named
pub mod Refusals
pub mod Sorted
pub mod Values
