pub mod History
pub mod Turning
pub mod Seats
pub mod Words
pub mod Laws
pub mod Rows
