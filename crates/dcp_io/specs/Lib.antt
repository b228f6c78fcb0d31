pub mod Counts
pub mod Listed
pub mod Moves
pub mod Memory
pub mod Reads
pub mod Statuses
pub mod Writes
