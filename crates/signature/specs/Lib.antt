pub mod Codes
pub mod Trees
pub mod Phrases
pub mod Examples
