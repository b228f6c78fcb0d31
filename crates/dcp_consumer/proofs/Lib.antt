pub mod Names
pub mod Answering
pub mod Steps
pub mod States
pub mod Moves
pub mod Reasons
mod Receiving
mod Storing
mod Acknowledging
mod FirstRequests
pub mod Counted
pub mod Noops
mod Ordered
mod DialBytes
mod StateBytes
