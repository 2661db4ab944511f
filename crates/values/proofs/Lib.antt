pub mod Ties
pub mod Steps
pub mod Passes
pub mod Runs
pub mod Once
pub mod Moves
