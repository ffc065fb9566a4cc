pub mod Outcome
pub mod Verdict
