pub mod Texts
pub mod Grammar
pub mod Examples
pub mod Scans
