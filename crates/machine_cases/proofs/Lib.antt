pub mod Kept
pub mod RuleTests
