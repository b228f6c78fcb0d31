pub mod Runs
pub mod Walks
mod Fronts
mod Rows
