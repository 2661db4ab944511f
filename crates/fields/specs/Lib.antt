pub mod Known
pub mod Headers
pub mod Words
