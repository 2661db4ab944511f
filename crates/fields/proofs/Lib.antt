pub mod Parts
pub mod Kept
pub mod Once
