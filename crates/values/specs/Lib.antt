pub mod Values
pub mod Walks
