mod Along
mod Answering
mod Answers
mod Entries
mod Evaluated
pub mod Exactly
mod Filters
mod Hearing
mod Lasting
mod Learning
mod Numbered
mod Quiet
mod Resting
mod Silent
