pub mod Seats
pub mod Codes
pub mod Laws
