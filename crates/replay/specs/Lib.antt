pub mod Counts
pub mod Outcomes
