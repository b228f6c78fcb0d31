pub mod Exits
pub mod Words
pub mod Writes
pub mod Runs
pub mod Summaries
pub mod Sums
pub mod Showing
pub mod EventKinds
