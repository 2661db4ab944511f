pub mod Law
pub mod Lines
pub mod Machine
pub mod Texts
