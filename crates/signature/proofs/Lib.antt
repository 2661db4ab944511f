pub mod Heads
pub mod Spellings
pub mod Fronts
pub mod Samples
