pub mod Numbers
pub mod Spreads
