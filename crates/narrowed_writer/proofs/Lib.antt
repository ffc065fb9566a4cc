pub mod Judging
pub mod Verdict
pub mod Outcomes
pub mod RoundTrips
