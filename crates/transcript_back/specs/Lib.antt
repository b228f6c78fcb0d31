pub mod Backs
pub mod Exits
