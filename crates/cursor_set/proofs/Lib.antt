pub mod Exactly
pub mod Finds
pub mod Leasts
