pub mod Kinds
pub mod Firsts
pub mod Frames
