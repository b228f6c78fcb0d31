pub mod Sending
pub mod Walks
pub mod Lasting
