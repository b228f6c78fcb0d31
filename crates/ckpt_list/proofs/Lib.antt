pub mod Climbs
pub mod Takes
pub mod Stops
pub mod Weights
pub mod Seals
pub mod Sheds
pub mod Trimming
mod Rehearsing
pub mod Exactly
mod Queues
