pub mod Spread
pub mod Once
