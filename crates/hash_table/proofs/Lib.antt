mod Counts
pub mod Finds
mod Listed
mod Loads
pub mod Orders
mod Puts
pub mod Placing
mod Ranks
