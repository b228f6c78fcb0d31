pub mod Checkpoints
pub mod Codes
pub mod Finds
pub mod Laws
pub mod Runs
