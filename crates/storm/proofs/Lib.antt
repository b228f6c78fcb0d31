pub mod Lists
pub mod Sharing
pub mod Writing
pub mod Tail
pub mod Turns
pub mod Texts
pub mod Jobs
