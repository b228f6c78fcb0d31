pub mod Seats
pub mod Parts
pub mod Gathered
pub mod Drained
pub mod Happening
