mod Covering
pub mod Credentials
mod Laws
mod Reading
