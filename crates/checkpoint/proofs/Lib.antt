pub mod Cuts
pub mod Entered
pub mod Exactly
pub mod Places
pub mod Runs
pub mod Unseen
