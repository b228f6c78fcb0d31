pub mod Openings
pub mod Links
pub mod Ears
pub mod Jobs
pub mod Edges
