pub mod Counted
pub mod Drawn
pub mod Listing
mod Parts
pub mod Poured
pub mod Stopping
