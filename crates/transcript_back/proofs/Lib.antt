pub mod Endings
pub mod Groups
