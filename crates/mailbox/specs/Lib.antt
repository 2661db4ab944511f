pub mod Lists
pub mod Messages
pub mod Refusals
