pub mod Data
pub mod Encodings
pub mod Examples
