pub mod Told
pub mod Links
pub mod Pumps
pub mod Steps
pub mod Open
pub mod Ended
