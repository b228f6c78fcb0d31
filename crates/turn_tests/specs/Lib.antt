pub mod Plain
pub mod Puts
