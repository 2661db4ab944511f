pub mod Spans
pub mod Pieces
pub mod Reading
pub mod Writing
pub mod Accepts
pub mod Recovers
pub mod Laws
pub mod Samples
