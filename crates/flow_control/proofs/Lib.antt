pub mod Closing
pub mod Holding
pub mod Turning
