pub mod Rows
pub mod Clients
pub mod Ending
pub mod Told
