pub mod Faults
pub mod Items
