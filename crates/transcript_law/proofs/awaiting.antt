-- who waits for a durable write
pub mod Calls
pub mod States
pub mod Frames
pub mod Numbers
pub mod Posts
pub mod Jobs
pub mod Nodes
pub mod Peers
pub mod Roles
pub mod Scripts
pub mod Stays
pub mod Idles
pub mod Downs
pub mod Turns
pub mod Givings
pub mod Running
pub mod Owns
